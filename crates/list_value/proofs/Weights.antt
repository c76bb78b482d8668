-- The powers of x and of y as words, and the weights of a group of g words: x^j · y^(g-1-j).
-- Assumes nothing.
use mathlib.Core.Path.{◌≡◌, sym, ◌∙◌, ap, ap₂}
use mathlib.Core.List.{List}
use Prim.Native.Nat.{ℕ, ◌+◌, ◌-◌, ◌*◌, ◌%◌, ◌<◌}
use native.Mathlib.Nat.{mod-lt}
use native.Mathlib.Omega.{arith}
use lib.ListN.{length, get_or}
use Rattle.algebra.specs.Ring.{pow}
use Rattle.algebra.proofs.Ring.{pow-zero, pow-next}
use Rattle.algebra.specs.PrimeField.{PrimeField, positive, scalars, residue}
use Rattle.algebra.proofs.PrimeField.{residue-value, residue-1}
use Rattle.lists.proofs.Tabulate.{length-tabulate, get_or-tabulate}
use Rattle.lists.proofs.Words.{value-is}
use Rattle.list_value.specs.Internal.{power_of, powers_of, weights_of}
use Rattle.list_value.proofs.Values.{residue-times}

pub length-weights : (p n : ℕ) (a b : List ℕ) → length (weights_of p n a b) ≡ n
unfolding weights_of
length-weights p n a b = length-tabulate n _

pub word-weights : (p n : ℕ) (a b : List ℕ) (j : ℕ) → j < n → get_or (weights_of p n a b) j 0 ≡ (get_or a j 0 * get_or b (n - 1 - j) 0) % p
unfolding weights_of
word-weights p n a b j l = get_or-tabulate n _ j l

module _ (F : PrimeField) where
  open scalars F use {mul as ◌⊗◌}

  infixl 70 ◌⊗◌
  module _ (x n : ℕ) where
    pub length-powers : length (powers_of F x n) ≡ n
    unfolding powers_of
    length-powers = length-tabulate n _

    pub word-powers : (j : ℕ) → j < n → get_or (powers_of F x n) j 0 ≡ power_of F x j
    unfolding powers_of
    word-powers j l = get_or-tabulate n _ j l

  pub residue-power : (x k : ℕ) {power : ℕ} → power ≡ power_of F x k → residue F power ≡ pow (scalars F) (residue F x) k
  unfolding power_of
  residue-power x k h = ap (residue F) h ∙ residue-value F _

  module _ {m : ℕ} (e : F.p ≡ m) where
    pub power-start : (x : ℕ) → 1 < m → 1 ≡ power_of F x 0
    unfolding power_of
    power-start x l = value-is F 1 _ (rw e l) (residue-1 F ∙ sym (pow-zero (scalars F) _))

    pub power-next : (x k : ℕ) {power power' : ℕ} → power ≡ power_of F x k → power' ≡ (power * x) % m → power' ≡ power_of F x (k + 1)
    unfolding power_of
    power-next x k {power} h q =
        value-is F _ _ (rw e (rw q (mod-lt (power * x) (omega (arith, positive F, e)))))
        (residue-times F e power x q ∙ ap (λ a. a ⊗ residue F x) (residue-power x k h) ∙ pow-next (scalars F) (residue F x) k)

    -- what the code writes, whose slices have g words each
    pub weights-are : (x y g : ℕ) {a b u : List ℕ} {i j n : ℕ} → i ≡ g → j ≡ g → n ≡ g → a ≡ powers_of F x i → b ≡ powers_of F y j → u ≡ weights_of m n a b
        → u ≡ weights_of m g (powers_of F x g) (powers_of F y g)
    weights-are x y g {a} {b} qa qb qu ha hb hu =
        hu ∙ ap (λ n. weights_of m n a b) qu ∙ ap₂ (weights_of m g) (ha ∙ ap (powers_of F x) qa) (hb ∙ ap (powers_of F y) qb)

    pub weight_is : (x y g : ℕ) {u : List ℕ} → u ≡ weights_of m g (powers_of F x g) (powers_of F y g) → (j : ℕ) → j < g
        → residue F (get_or u j 0) ≡ pow (scalars F) (residue F x) j ⊗ pow (scalars F) (residue F y) (g - 1 - j)
    weight_is x y g h j l =
        residue-times F e _ _ (ap (λ v. get_or v j 0) h ∙ word-weights m g _ _ j l)
        ∙ ap₂ (λ a b. a ⊗ b)
        (residue-power x j (word-powers x g j l))
        (residue-power y (g - 1 - j) (word-powers y g (g - 1 - j) (omega arith)))
