-- What demand 3 says of the cofactors and of a host's division and GCD, by what each call answers and what its slices hold at exit. Of a
-- refused call it says nothing.
--     Meet                 a and b meet what document 01 asks of the cofactors of f and g, for h of naive degree w. m and the power of 1-t are
--                          fixed by sums, so that no difference is cut off at 0: m + 1 = max(d,1) + max(e,1), power + w = m, and a and b
--                          have m - d and m - e as naive degrees
--     Fixed                they do, and no other a and b do
--     CofactorsOf          this holds of the first w + 1 words of the slice h, w being the first value of the answer
--     HostDivisionSo       the bytes of q and r at exit are those of two lists, and these divide so
--     HostGreatestSo       the bytes of the answer are those of w, c and rounds, and the words of h have the property of the GCD
-- Assumes nothing.
use Rattle.std.specs.Prelude.{◌≡◌, List, [], ◌∷◌, ℕ, suc, ◌+◌, ◌<◌, max, length, take, Ok}
use Rattle.algebra.specs.OneMinusT.{⟨1-t⟩^}
use Rattle.algebra.specs.PrimeField.{PrimeField}
use Rattle.refusal.specs.Refusal.{Reply, reply}
use Rattle.lists.specs.Bytes.{words_of, bytes_of}
use Rattle.lists.specs.Degrees.{naive_degree, significant, extent}
use Rattle.lists.specs.Lists.{Coefficients, meaning}
use Rattle.list_division.specs.Calls.{DividesSo}
use Rattle.list_gcd.specs.Calls.{GreatestSo}

module _ (F : PrimeField) where
  open F.series.ring use {add as ◌+ˢ◌, mul as ◌*ˢ◌}

  infixl 65 ◌+ˢ◌
  infixl 70 ◌*ˢ◌
  pub record Meet (f g h : List ℕ) (w : ℕ) (a b : List ℕ) : Type 0 where
    pub coefficients_a : Coefficients F a
    pub coefficients_b : Coefficients F b
    pub m : ℕ
    pub m_is : suc m ≡ max (naive_degree f) 1 + max (naive_degree g) 1
    pub words_a : length a + naive_degree f ≡ suc m
    pub words_b : length b + naive_degree g ≡ suc m
    pub words_h : length h ≡ suc w
    pub power : ℕ
    pub power-is : power + w ≡ m
    pub identity : meaning F a *ˢ meaning F f +ˢ meaning F b *ˢ meaning F g ≡ ⟨1-t⟩^ F.series power *ˢ meaning F h
    pub a_zero : significant f ≡ 0 → significant a ≡ 0
    pub b_zero : 0 < significant f → extent f ≡ w → significant b ≡ 0
    pub b_small : 0 < significant f → 0 < significant b → extent b + w < extent f

  pub record Fixed (f g h : List ℕ) (w : ℕ) (a b : List ℕ) : Type 0 where
    pub meet : Meet f g h w a b
    pub only : (a' b' : List ℕ) → Meet f g h w a' b' → (a' ≡ a) × (b' ≡ b)

  abbrev pub CofactorsOf : (f g slice a b : List ℕ) → Reply → Type 0
  CofactorsOf f g slice a b r = (w c rounds : ℕ) → r ≡ reply (Ok tt) (w ∷ c ∷ rounds ∷ []) → Fixed f g (take (suc w) slice) w a b

  -- n is the number that a host is answered
  abbrev pub HostDivisionSo : (g f q r : List ℕ) → ℕ → Type 0
  HostDivisionSo g f q r n = n ≡ 0 → (bytes_of (words_of q) ≡ q) × (bytes_of (words_of r) ≡ r) × DividesSo F (words_of g) (words_of f) (words_of q) (words_of r)

  pub record HostGreatestSo (f g h answer : List ℕ) : Type 0 where
    pub w : ℕ
    pub c : ℕ
    pub rounds : ℕ
    pub answer-is : answer ≡ bytes_of (w ∷ c ∷ rounds ∷ [])
    pub h_is : bytes_of (words_of h) ≡ h
    pub greatest : GreatestSo F (words_of f) (words_of g) (words_of h) w c rounds

  abbrev pub HostGcdSo : (f g h answer : List ℕ) → ℕ → Type 0
  HostGcdSo f g h answer n = n ≡ 0 → HostGreatestSo f g h answer
