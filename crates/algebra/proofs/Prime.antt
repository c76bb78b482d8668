-- A test by trial division that shows a number prime.
--     no_divisor p n     true when none of 2, …, n + 1 divides p
--     prime_test p b     true when 1 < p < (b + 2)² and none of 2, …, b + 1 divides p
-- Theorem:
--     prime-of-test     a number that passes the test is prime
-- Assumes nothing.
use mathlib.Core.Path.{◌≡◌, refl, sym, ◌∙◌, ap, subst}
use mathlib.Core.Bool.{Bool, true, ◌&&◌}
use mathlib.Core.Logic.{◌⊎◌, inl, inr}
use Prim.Native.Nat.{ℕ, zero, suc, ◌+◌, ◌*◌, ◌%◌, ◌/◌, ◌<◌, ◌≤◌, ◌∣◌}
use native.Mathlib.Nat as N
use native.Mathlib.Decide.{ℕ_discrete, dec_lt}
use native.Mathlib.Omega.{arith}
use lib.Dec.{T, ltb, ltb→lt}
use mir.Facts.{and_yes}
use Rattle.algebra.specs.Prime.{Prime}

abbrev pub no_divisor : ℕ → ℕ → Bool
no_divisor p zero = true
no_divisor p (suc n) = ltb 0 (p % (n + 2)) && no_divisor p n

abbrev pub prime_test : ℕ → ℕ → Bool
prime_test p b = ltb 1 p && (ltb p ((b + 2) * (b + 2)) && no_divisor p b)

no_divisor-sound : (p n d : ℕ) → T (no_divisor p n) → 2 ≤ d → d < n + 2 → ¬ (p % d ≡ 0)
no_divisor-sound p zero d t h l e = omega arith
no_divisor-sound p (suc n) d t h l e =
    go
    (λ l'. no_divisor-sound p n d (and_yes (ltb 0 (p % (n + 2))) (no_divisor p n) t).1 h l' e)
    (ℕ_discrete d (n + 2))
  where
    go : (d < n + 2 → ⊥) → Dec (d ≡ n + 2) → ⊥
    go ih (yes q) =
        let t' : 0 < p % (n + 2) = ltb→lt 0 (p % (n + 2)) (and_yes (ltb 0 (p % (n + 2))) (no_divisor p n) t).0 in
        N.ne_of_gt t' (ap (λ x. p % x) (sym q) ∙ e)
    go ih (no q) = ih (omega arith)

-- a number that passes the test is prime: of two factors one is below b + 2
pub prime-of-test : (p b : ℕ) → T (prime_test p b) → Prime p
prime-of-test p b t = record { big = above; only = λ d h. divisor d h (dec_lt d (b + 2)) }
  where
    above : 1 < p
    above = ltb→lt 1 p (and_yes (ltb 1 p) (ltb p ((b + 2) * (b + 2)) && no_divisor p b) t).0

    rest : T (ltb p ((b + 2) * (b + 2)) && no_divisor p b)
    rest = (and_yes (ltb 1 p) (ltb p ((b + 2) * (b + 2)) && no_divisor p b) t).1

    square : p < (b + 2) * (b + 2)
    square = ltb→lt p ((b + 2) * (b + 2)) (and_yes (ltb p ((b + 2) * (b + 2))) (no_divisor p b) rest).0

    none : T (no_divisor p b)
    none = (and_yes (ltb p ((b + 2) * (b + 2))) (no_divisor p b) rest).1

    low : (d : ℕ) → d ∣ p → d < b + 2 → d ≡ 1
    low zero h l = let e : p ≡ 0 = N.eq-zero_of_zero-dvd h in omega (arith, above)
    low (suc zero) h l = refl
    low (suc (suc d)) h l =
        absurd (no_divisor-sound p b (suc (suc d)) none (omega arith) l (N.mod-eq-zero_of_dvd (suc (suc d)) h))

    divisor : (d : ℕ) → d ∣ p → Dec (d < b + 2) → (d ≡ 1) ⊎ (d ≡ p)
    divisor d h (yes l) = inl (low d h l)
    divisor d h (no l) = high (dec_lt (p / d) (b + 2))
      where
        eq : p / d * d ≡ p
        eq = N.div-mul_cancel d h

        high : Dec (p / d < b + 2) → (d ≡ 1) ⊎ (d ≡ p)
        high (yes l') =
            let one : p / d ≡ 1 = low (p / d) (subst (λ x. p / d ∣ x) eq (N.dvd-mul_right (p / d) d)) l' in
            inr (sym (N.one-mul d) ∙ ap (λ x. x * d) (sym one) ∙ eq)
        high (no l') =
            let m : (b + 2) * (b + 2) ≤ p / d * d = N.mul-le-mul (omega arith) (omega arith) in
            absurd (omega (arith, square, eq))
