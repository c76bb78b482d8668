-- Binomial coefficients, and that none of them is 0 modulo a prime above n.
--     choose-zero, choose-0-suc, pascal     the clauses of the definition
--     choose-above, choose-self             C(n, k) = 0 for k above n, and C(n, n) = 1
--     choose-symmetric                      C(n, k) = C(n, n-k)
--     absorb                                C(n, k+1) · (k+1) = C(n, k) · (n-k); absorb+ is the same without a difference
--     choose-suc-suc, choose-suc            (k+1) · C(n+1, k+1) = (n+1) · C(n, k) = (n+1-k) · C(n+1, k)
--     choose-nonzero                        modulo a prime above n none of C(n, 0), …, C(n, n) is 0
-- Assumes nothing.
use mathlib.Core.Path.{◌≡◌, refl, sym, ◌∙◌, ap, ap₂}
use Prim.Native.Nat.{ℕ, zero, suc, ◌+◌, ◌*◌, ◌-◌, ◌%◌, ◌≤◌, ◌<◌}
use native.Mathlib.Nat as N
use native.Mathlib.Decide.{ℕ_discrete}
use native.Mathlib.Omega.{arith}
use Rattle.algebra.specs.RingLaws as R
use Rattle.algebra.proofs.Ring.{zero-of-mul}
use Rattle.algebra.specs.Prime.{Prime}
use Rattle.algebra.specs.Zp.{Zp, Zp_field}
use Rattle.algebra.specs.ResiduesLaws.{pos_of}
use Rattle.algebra.specs.Modular.{residue_mod}
use Rattle.algebra.specs.ModularLaws.{residue_mod-mul, residue_mod-zero, residue_mod-one, residue_mod_injective}
use Rattle.algebra.specs.Choose.{choose}

pub choose-zero : (n : ℕ) → choose n 0 ≡ 1
unfolding choose
choose-zero zero = refl
choose-zero (suc n) = refl

pub choose-0-suc : (k : ℕ) → choose 0 (suc k) ≡ 0
unfolding choose
choose-0-suc k = refl

pub pascal : (n k : ℕ) → choose (suc n) (suc k) ≡ choose n k + choose n (suc k)
unfolding choose
pascal n k = refl

pub choose-above : (n k : ℕ) → n < k → choose n k ≡ 0
choose-above zero zero h = absurd (omega arith)
choose-above zero (suc k) h = choose-0-suc k
choose-above (suc n) zero h = absurd (omega arith)
choose-above (suc n) (suc k) h =
    pascal n k ∙ ap₂ ◌+◌ (choose-above n k (N.le_of_suc-le-suc h)) (choose-above n (suc k) (omega arith))

pub choose-self : (n : ℕ) → choose n n ≡ 1
choose-self zero = choose-zero 0
choose-self (suc n) = pascal n n ∙ ap₂ ◌+◌ (choose-self n) (choose-above n (suc n) (omega arith))

-- C(n, k) = C(n, n - k)
pub choose-symmetric : (n k : ℕ) → k ≤ n → choose n k ≡ choose n (n - k)
choose-symmetric zero zero l = ap (choose 0) (sym (N.sub_self 0))
choose-symmetric zero (suc k) l = absurd (omega arith)
choose-symmetric (suc n) zero l = choose-zero (suc n) ∙ sym (choose-self (suc n)) ∙ ap (choose (suc n)) (sym (N.sub-zero (suc n)))
choose-symmetric (suc n) (suc k) l = go (λ j h. choose-symmetric n j h) (ℕ_discrete k n)
  where
    go : ((j : ℕ) → j ≤ n → choose n j ≡ choose n (n - j)) → Dec (k ≡ n) → choose (suc n) (suc k) ≡ choose (suc n) (suc n - suc k)
    go ih (yes e) =
        let none : suc n - suc k ≡ 0 = omega arith in
        rw (none, e) (choose-self (suc n) ∙ sym (choose-zero (suc n)))
    go ih (no e) =
        let more : suc n - suc k ≡ suc (n - suc k) = omega arith in
        let rest : n - k ≡ suc (n - suc k) = omega arith in
        rw (more, pascal n k, pascal n (n - suc k)) (omega (arith, ih k (omega arith) ∙ ap (choose n) rest, ih (suc k) (omega arith)))

-- C(n, k+1) · (k+1) = C(n, k) · (n-k); first without a difference
pub absorb+ : (n k : ℕ) → choose n (suc k) * suc k + choose n k * k ≡ choose n k * n
absorb+ zero zero = rw (choose-0-suc 0) (omega arith)
absorb+ zero (suc k) = rw (choose-0-suc (suc k), choose-0-suc k) (omega arith)
absorb+ (suc n) zero = rw (pascal n 0, choose-zero (suc n), choose-zero n) (omega (arith, rw (choose-zero n) at (absorb+ n zero)))
absorb+ (suc n) (suc k) = rw (pascal n (suc k), pascal n k) (omega (arith, absorb+ n k, absorb+ n (suc k)))

pub absorb : (n k : ℕ) → choose n (suc k) * suc k ≡ choose n k * (n - k)
absorb n k = omega (arith, absorb+ n k, N.mul-sub (choose n k) n k)

-- (k+1) · C(n+1, k+1) = (n+1) · C(n, k) = (n+1-k) · C(n+1, k)
pub choose-suc-suc : (n k : ℕ) → suc k * choose (suc n) (suc k) ≡ suc n * choose n k
choose-suc-suc n k =
    rw (pascal n k) (omega (arith, absorb+ n k))

pub choose-suc : (n k : ℕ) → (suc n - k) * choose (suc n) k ≡ suc n * choose n k
choose-suc n k =
    N.mul_comm (suc n - k) (choose (suc n) k) ∙ sym (absorb (suc n) k)
    ∙ N.mul_comm (choose (suc n) (suc k)) (suc k) ∙ choose-suc-suc n k

module _ (p : ℕ) (prime : Prime p) where
  open Zp p prime use {Carrier, zero as 𝟘, mul as ◌⊗◌}

  infixl 70 ◌⊗◌
  abbrev res : ℕ → Carrier
  res n = residue_mod p (pos_of p prime) n

  small-nonzero : (n : ℕ) → 0 < n → n < p → ¬ (res n ≡ 𝟘)
  small-nonzero n l h e =
      let remainders : n % p ≡ 0 % p = residue_mod_injective p (pos_of p prime) n 0 (e ∙ sym (residue_mod-zero p (pos_of p prime))) in
      let itself = N.mod-eq_of_lt h in
      let nothing = N.zero-mod p in
      omega arith

  -- modulo a prime above n none of C(n, 0), …, C(n, n) is 0
  pub choose-nonzero : (n k : ℕ) → n < p → k ≤ n → ¬ (residue_mod p (pos_of p prime) (choose n k) ≡ 𝟘)
  choose-nonzero n zero h l e =
      (Zp_field p prime).one≢zero (sym (residue_mod-one p (pos_of p prime)) ∙ ap res (sym (choose-zero n)) ∙ e)
  choose-nonzero n (suc k) h l e =
      small-nonzero (n - k) (omega arith) (omega arith)
      (zero-of-mul (Zp p prime) (Zp_field p prime) (res (choose n k)) (res (n - k)) (choose-nonzero n k h (omega arith)) product)
    where
      product : res (choose n k) ⊗ res (n - k) ≡ 𝟘
      product =
          sym (residue_mod-mul p (pos_of p prime) (choose n k) (n - k)) ∙ ap res (sym (absorb n k))
          ∙ residue_mod-mul p (pos_of p prime) (choose n (suc k)) (suc k)
          ∙ ap (λ x. x ⊗ res (suc k)) e ∙ R.zero-mul (Zp p prime) (res (suc k))
