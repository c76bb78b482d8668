-- Words of 16 bits modulo p.
--     same                      numbers that differ by multiples of p leave the same remainder
--     remainder                 what is below p and differs by multiples of p is the remainder
--     once                      one subtraction of p reduces a word
--     high-below                the high half of a product with a number below p is below p
--     sub-less, sub_more        a difference modulo p, where it goes below 0 and where it does not
--     below-zero, not-below     the same by differences that wrap
-- Assumes nothing.
use Rattle.std.proofs.Common.{◌≡◌, ℕ, ◌+◌, ◌-◌, ◌*◌, ◌/◌, ◌%◌, ◌<◌, ◌≤◌, sym, ap, ◌∙◌, lt_trans, mod-eq_of_lt, mul-le-mul, arith}
use native.Mathlib.Nat.{add-mul-mod_self_left}

pub same : (p a b u v : ℕ) → a + p * u ≡ b + p * v → a % p ≡ b % p
same p a b u v e = sym (add-mul-mod_self_left a p u) ∙ ap (λ x. x % p) e ∙ add-mul-mod_self_left b p v

pub high-below : {p g : ℕ} (y : ℕ) → y < 65536 → g ≤ p → 0 < p → y * g / 65536 < p
high-below {p} {g} y ly lg pos = omega (arith, mul-le-mul {n₁ = y} {m₁ = g} {n₂ = 65535} {m₂ = p} (omega arith) lg)

pub remainder : (p r a u v : ℕ) → r < p → r + p * u ≡ a + p * v → r ≡ a % p
remainder p r a u v l e = sym (mod-eq_of_lt l) ∙ same p r a u v e

pub once : (a p : ℕ) → p ≤ a → a < p + p → a - p ≡ a % p
once a p h g = remainder p (a - p) a 1 0 (omega arith) (omega arith)

-- a difference of words that does not wrap, and one that does
exact : (a b r : ℕ) → b ≤ a → r < 65536 → a < 65536 → (r + b) % 65536 ≡ a → r ≡ a - b
exact a b r h lr la e = omega arith

wraps : (a b r : ℕ) → a < b → r < 65536 → b < 65536 → (r + b) % 65536 ≡ a → r + b ≡ a + 65536
wraps a b r h lr lb e = omega arith

wraps-back : (p h t d r : ℕ) → d + t ≡ h + 65536 → h < t → t < p → p < 65536 → r ≡ (d + p) % 65536 → r ≡ h + p - t
wraps-back p h t d r e l lt lp q = omega arith

pub sub-less : (a b p : ℕ) → a < b → b ≤ p → a + p - b ≡ (a + (p - b)) % p
sub-less a b p h g = remainder p (a + p - b) (a + (p - b)) 0 0 (omega arith) (omega arith)

pub sub_more : (a b p : ℕ) → b ≤ a → a < p → a - b ≡ (a + (p - b)) % p
sub_more a b p h g = remainder p (a - b) (a + (p - b)) 1 0 (omega arith) (omega arith)

-- h less t modulo p, by wrapping differences d, u and v
module _ (p h t d u v : ℕ) (lh : h < p) (lt : t < p) (lp : p < 65536) (ld : d < 65536) (lu : u < 65536) (lv : v < 65536)
    (ed : (d + t) % 65536 ≡ h) (eu : (u + t) % 65536 ≡ p) (ev : (v + h) % 65536 ≡ p) where
  less : u ≡ p - t
  less = exact p t u (omega arith) lu lp eu

  more : v ≡ p - h
  more = exact p h v (omega arith) lv lp ev

  pub below-zero : (r : ℕ) → r ≡ (d + p) % 65536 → u < v → r ≡ (h + (p - t)) % p
  below-zero r er l =
      let g : h < t = omega (arith, less, more) in
      wraps-back p h t d r (wraps h t d g ld (lt_trans lt lp) ed) g lt lp er ∙ sub-less h t p g (omega arith)

  pub not-below : v ≤ u → d ≡ (h + (p - t)) % p
  not-below l =
      let g : t ≤ h = omega (arith, less, more) in
      exact h t d g ld (omega arith) ed ∙ sub_more h t p g lh
