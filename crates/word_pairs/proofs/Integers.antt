-- Integers as differences of two numbers: sums, products, and what fits 32 bits.
--     add-diff, mul-diff, fits-diff, up-diff     an integer that is a difference: sums, products, whether it fits, and what it is above -2^31
--     rd z, rd-diff, rd-fits, rd-up              what the machine reads back: an integer that fits, again
--     most, least                                bounds of a product of two words read as signed
--     signed_is, bits_is                         a word read as signed, and an integer's bits
--     Plain w z n                                an integer that is not negative, as an unsigned one of width w
--     high_fits, high-plain                      an integer without its low half
--     mul-fits, sum_fits, sum_is                 two products, and their sum
--     first-whole .. high_sum                    sums modulo 2^32: the first number, one more, and all four
-- Assumes nothing.
use Rattle.std.proofs.Common.{◌≡◌, ℕ, zero, suc, ◌+◌, ◌-◌, ◌*◌, ◌/◌, ◌%◌, ◌<◌, ◌≤◌, T, ℤ, pos, negsuc, ◌+ℤ◌, ◌*ℤ◌, neg_ℤ, nat_abs, sym, refl, ap, ◌∙◌, subst, mul-le-mul, arith, w16, w32, Fits, SFits, to_z, of_z, le-ltb, lt-ltb}
use native.Mathlib.Decide.{dec_lt}
use lib.IntN.{sub_ℕ}
use lib.Signed.{shr_z, non_neg}
use mir.Syntax.{Width}
use mir.ValLaws.{to_z-of_z, to_z_pos, to_z-neg}
use Rattle.word_pairs.specs.Pairs.{up, up32, Diff, pair_of}

sub-diff : (m n a b : ℕ) → m + b ≡ n + a → Diff (sub_ℕ m n) a b
sub-diff m n a b e = go (dec_lt m n)
  where
    go : Dec (m < n) → Diff (sub_ℕ m n) a b
    go (yes h) = rw (lt-ltb m n h) (omega (arith, e))
    go (no h) = rw (le-ltb m n (omega arith)) (omega (arith, e))

neg-diff : (k a b : ℕ) → a + k ≡ b → Diff (neg_ℤ (pos k)) a b
neg-diff zero a b e = omega (arith, e)
neg-diff (suc k) a b e = e

pub add-diff : (y z : ℤ) (a b c d : ℕ) → Diff y a b → Diff z c d → Diff (y +ℤ z) (a + c) (b + d)
add-diff (pos m) (pos n) a b c d e f = omega (arith, e, f)
add-diff (pos m) (negsuc n) a b c d e f = sub-diff m (suc n) (a + c) (b + d) (omega (arith, e, f))
add-diff (negsuc m) (pos n) a b c d e f = sub-diff n (suc m) (a + c) (b + d) (omega (arith, e, f))
add-diff (negsuc m) (negsuc n) a b c d e f = omega (arith, e, f)

pub mul-diff : (y z : ℤ) (a b c d : ℕ) → Diff y a b → Diff z c d → Diff (y *ℤ z) (a * c + b * d) (a * d + b * c)
mul-diff (pos m) (pos n) a b c d e f = rw (sym e, sym f) (omega arith)
mul-diff (pos m) (negsuc n) a b c d e f = neg-diff (m * suc n) (a * c + b * d) (a * d + b * c) (rw (sym e, sym f) (omega arith))
mul-diff (negsuc m) (pos n) a b c d e f = neg-diff (suc m * n) (a * c + b * d) (a * d + b * c) (rw (sym e, sym f) (omega arith))
mul-diff (negsuc m) (negsuc n) a b c d e f = rw (sym e, sym f) (omega arith)

pub fits-diff : (z : ℤ) (a b : ℕ) → Diff z a b → a < b + 2147483648 → b ≤ a + 2147483648 → SFits w32 z
fits-diff (pos n) a b e h k = record { sfits = omega (arith, e) }
fits-diff (negsuc n) a b e h k = record { sfits = omega (arith, e) }

pub up-diff : (z : ℤ) (a b : ℕ) → Diff z a b → b ≤ a + 2147483648 → up32 z + b ≡ a + 2147483648
unfolding up32
up-diff (pos n) a b e k = omega (arith, e)
up-diff (negsuc n) a b e k = omega (arith, e)

-- what the machine reads back
abbrev pub rd : ℤ → ℤ
rd z = to_z w32 (of_z w32 z)

pub rd-diff : (z : ℤ) (a b : ℕ) → Diff z a b → a < b + 2147483648 → b ≤ a + 2147483648 → Diff (rd z) a b
rd-diff z a b e h k = subst (λ x. Diff x a b) (sym (to_z-of_z w32 z (fits-diff z a b e h k))) e

-- bounds of a product
split : (x y : ℕ) → 32768 ≤ x → x * y ≡ (x - 32768) * y + 32768 * y
split x y q = ap (λ i. i * y) e ∙ omega arith
  where
    e : x ≡ x - 32768 + 32768
    e = omega arith

split-low : (x y : ℕ) → x ≤ 32768 → x * y + (32768 - x) * y ≡ 32768 * y
split-low x y q = sym (omega arith) ∙ ap (λ i. i * y) e
  where
    e : x + (32768 - x) ≡ 32768
    e = omega arith

pub most : (x y : ℕ) → 0 < x → x < 65536 → y < 65536 → x * y < x * 32768 + 32768 * y
most x y o h g = go (dec_lt 32768 x)
  where
    go : Dec (32768 < x) → x * y < x * 32768 + 32768 * y
    go (yes q) = omega (arith, mul-le-mul {n₁ = x - 32768} {m₁ = y} {n₂ = x - 32768} {m₂ = 65535} (omega arith) (omega arith), split x y (omega arith))
    go (no q) = omega (arith, mul-le-mul {n₁ = x} {m₁ = y} {n₂ = 32768} {m₂ = y} (omega arith) (omega arith))

pub least : (x y : ℕ) → x < 65536 → y < 65536 → x * 32768 + 32768 * y ≤ x * y + 2147483648
least x y h g = go (dec_lt 32768 x)
  where
    go : Dec (32768 < x) → x * 32768 + 32768 * y ≤ x * y + 2147483648
    go (yes q) = omega (arith, split x y (omega arith))
    go (no q) = omega (arith, mul-le-mul {n₁ = 32768 - x} {m₁ = y} {n₂ = 32768 - x} {m₂ = 65535} (omega arith) (omega arith), split-low x y (omega arith))

-- a word, as signed
pub signed_is : (x : ℕ) → x < 65536 → Diff (to_z w16 x) (up x) 32768
unfolding up
signed_is x h = go (dec_lt x 32768)
  where
    whole : ¬ (x < 32768) → 65536 - suc (65535 - x) ≡ x
    whole n = omega arith

    go : Dec (x < 32768) → Diff (to_z w16 x) ((x + 32768) % 65536) 32768
    go (yes l) = rw (to_z_pos w16 x l) (omega arith)
    go (no n) =
        subst (λ z. Diff z ((x + 32768) % 65536) 32768) (sym (to_z-neg w16 (65535 - x) (omega arith)) ∙ ap (λ n. to_z w16 n) (whole n)) (omega arith)

-- an integer's bits
pub bits_is : (t : ℤ) → SFits w32 t → of_z w32 t ≡ (up32 t + 2147483648) % 4294967296
unfolding up32
bits_is (pos n) f = omega (arith, f.sfits)
bits_is (negsuc n) f = omega (arith, f.sfits)

-- what stays of an integer without its low half
shift-diff : (t : ℤ) → SFits w32 t → Diff (shr_z t 65536) (up32 t / 65536) 32768
unfolding up32
shift-diff (pos n) f = omega arith
shift-diff (negsuc n) f = omega (arith, f.sfits)

up_small : (t : ℤ) → SFits w32 t → up32 t < 4294967296
unfolding up32
up_small (pos n) f = omega (arith, f.sfits)
up_small (negsuc n) f = omega (arith, f.sfits)

is_pos : (z : ℤ) (n a b : ℕ) → n + b ≡ a → Diff z a b → z ≡ pos n
is_pos (pos m) n a b q e = ap pos (omega (arith, e, q))
is_pos (negsuc m) n a b q e = absurd (omega (arith, e, q))

-- an integer that is not negative, as an unsigned one
pub record Plain (w : Width) (z : ℤ) (n : ℕ) : Type 0 where
  pub cast : T (non_neg z) × Fits w (nat_abs z)
  pub out : nat_abs z ≡ n

plain32 : {z : ℤ} (n : ℕ) → n < 4294967296 → z ≡ pos n → Plain w32 z n
plain32 {z} n h e = subst (λ x. Plain w32 x n) (sym e) (record { cast = (tt, record { fits = omega arith }); out = refl })

module _ (t : ℤ) (f : SFits w32 t) where
  shifted : rd (shr_z (rd t) 65536) +ℤ to_z w32 32768 ≡ pos (up32 t / 65536)
  shifted =
      is_pos _ (up32 t / 65536) (up32 t / 65536 + 32768) (32768 + 0) (omega arith)
      (add-diff (rd (shr_z (rd t) 65536)) (to_z w32 32768) (up32 t / 65536) 32768 32768 0
      (rd-diff (shr_z (rd t) 65536) (up32 t / 65536) 32768
      (subst (λ z. Diff (shr_z z 65536) (up32 t / 65536) 32768) (sym (to_z-of_z w32 t f)) (shift-diff t f)) (omega (arith, up_small t f)) (omega arith))
      (subst (λ z. Diff z 32768 0) (sym (to_z_pos w32 32768 (omega arith))) (omega arith)))

  pub high_fits : SFits w32 (rd (shr_z (rd t) 65536) +ℤ to_z w32 32768)
  high_fits = subst (λ z. SFits w32 z) (sym shifted) (record { sfits = omega (arith, up_small t f) })

  pub high-plain : Plain w32 (rd (rd (shr_z (rd t) 65536) +ℤ to_z w32 32768)) (up32 t / 65536)
  high-plain = plain32 (up32 t / 65536) (omega (arith, up_small t f)) (to_z-of_z w32 _ high_fits ∙ shifted)

-- the product of two signed words
module _ (z y : ℤ) (x v : ℕ) (e : Diff z x 32768) (d : Diff y v 32768) (o : 0 < x) (h : x < 65536) (g : v < 65536) where
  times : Diff (rd z *ℤ rd y) (x * v + 32768 * 32768) (x * 32768 + 32768 * v)
  times = mul-diff (rd z) (rd y) x 32768 v 32768 (rd-diff z x 32768 e (omega arith) (omega arith)) (rd-diff y v 32768 d (omega arith) (omega arith))

  pub mul-fits : SFits w32 (rd z *ℤ rd y)
  mul-fits = fits-diff (rd z *ℤ rd y) (x * v + 32768 * 32768) (x * 32768 + 32768 * v) times (omega (arith, most x v o h g)) (omega (arith, least x v h g))

  pub rd-times : Diff (rd (rd z *ℤ rd y)) (x * v + 32768 * 32768) (x * 32768 + 32768 * v)
  rd-times = rd-diff (rd z *ℤ rd y) (x * v + 32768 * 32768) (x * 32768 + 32768 * v) times (omega (arith, most x v o h g)) (omega (arith, least x v h g))

pub up-less : (x : ℕ) → up x < 65536
unfolding up
up-less x = omega arith

-- the sum of two of them
module _ (z0 y0 z1 y1 : ℤ) (w0 v0 w1 v1 : ℕ)
    (e0 : Diff z0 (up w0) 32768) (d0 : Diff y0 (up v0) 32768) (e1 : Diff z1 (up w1) 32768) (d1 : Diff y1 (up v1) 32768)
    (o0 : 0 < up w0) (o1 : 0 < up w1) where
  abbrev gains : ℕ
  gains = up w0 * up v0 + 32768 * 32768 + (up w1 * up v1 + 32768 * 32768)

  abbrev losses : ℕ
  losses = up w0 * 32768 + 32768 * up v0 + (up w1 * 32768 + 32768 * up v1)

  abbrev sum : ℤ
  sum = rd (rd z0 *ℤ rd y0) +ℤ rd (rd z1 *ℤ rd y1)

  both : Diff sum gains losses
  both =
      add-diff (rd (rd z0 *ℤ rd y0)) (rd (rd z1 *ℤ rd y1))
      (up w0 * up v0 + 32768 * 32768) (up w0 * 32768 + 32768 * up v0) (up w1 * up v1 + 32768 * 32768) (up w1 * 32768 + 32768 * up v1)
      (rd-times z0 y0 (up w0) (up v0) e0 d0 o0 (up-less w0) (up-less v0)) (rd-times z1 y1 (up w1) (up v1) e1 d1 o1 (up-less w1) (up-less v1))

  below : gains < losses + 2147483648
  below = omega (arith, most (up w0) (up v0) o0 (up-less w0) (up-less v0), most (up w1) (up v1) o1 (up-less w1) (up-less v1))

  above : losses ≤ gains + 2147483648
  above = omega (arith, least (up w0) (up v0) (up-less w0) (up-less v0), least (up w1) (up v1) (up-less w1) (up-less v1))

  pub sum_fits : SFits w32 sum
  sum_fits = fits-diff sum gains losses both below above

  pub sum_is : up32 (rd sum) ≡ pair_of w0 v0 w1 v1
  unfolding pair_of
  sum_is = ap up32 (to_z-of_z w32 sum sum_fits) ∙ omega (arith, up-diff sum gains losses both above)

-- sums modulo 2^32: the first number, and one more
module _ (t : ℤ) (f : SFits w32 t) where
  back : up32 (rd t) ≡ up32 t
  back = ap up32 (to_z-of_z w32 t f)

  pub first-whole : (s : ℕ) {r : ℕ} → r ≡ (s + (up32 (rd t) + 2147483648)) % 4294967296 → r ≡ (s + (up32 t + 2147483648)) % 4294967296
  first-whole s e = omega (arith, e, back)

  pub more-whole : (n : ℕ) {s r : ℕ} → s ≡ n % 4294967296 → r ≡ (s + (up32 (rd t) + 2147483648)) % 4294967296 → r ≡ (n + (up32 t + 2147483648)) % 4294967296
  more-whole n e g = omega (arith, e, g, back)

  pub more-high : (n : ℕ) {s r : ℕ} → s ≡ n % 4294967296 → r ≡ (s + up32 (rd t) / 65536) % 4294967296 → r ≡ (n + up32 t / 65536) % 4294967296
  more-high n e g = omega (arith, e, g, back)

pub whole_sum : (a u0 u1 u2 u3 : ℕ) {r : ℕ}
    → r ≡ (a + (u0 + 2147483648) + (u1 + 2147483648) + (u2 + 2147483648) + (u3 + 2147483648)) % 4294967296 → r ≡ (a + (u0 + u1 + u2 + u3)) % 4294967296
whole_sum a u0 u1 u2 u3 e = omega (arith, e)

pub high_sum : (a u0 u1 u2 u3 : ℕ) {r : ℕ} → r ≡ (a + u0 + u1 + u2 + u3) % 4294967296 → r ≡ (a + (u0 + u1 + u2 + u3)) % 4294967296
high_sum a u0 u1 u2 u3 e = omega (arith, e)

pub rd-fits : (z : ℤ) → SFits w32 z → SFits w32 (rd z)
rd-fits z f = subst (λ x. SFits w32 x) (sym (to_z-of_z w32 z f)) f

pub rd-up : (z : ℤ) {n : ℕ} → SFits w32 z → up32 z ≡ n → up32 (rd z) ≡ n
rd-up z f e = ap up32 (to_z-of_z w32 z f) ∙ e
