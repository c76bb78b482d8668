-- Montgomery's products on words: the difference of two high halves is a product modulo p.
--     product-halves              with the constants of m, the high half of y · g less that of (y · s modulo 2^16) · p is m · y
--     added                       the word that a row's turn stores
--     square-factor               the constants of 2^16 itself
--     lifted-factor               those of m, from a product with them
--     factor-below                g is below p
--     square-below, modulus-at    the constants of a field
--     lift-at                     the lift of m, as the constants of -m · 2^16
--     minus-at                    the constants of -a · m, from a product with them
-- Assumes nothing.
use Rattle.std.proofs.Common.{◌≡◌, ℕ, ◌+◌, ◌-◌, ◌*◌, ◌/◌, ◌%◌, ◌<◌, refl, sym, ap, ◌∙◌, mod-lt, mul_comm, zero-add, arith}
use native.Mathlib.Nat.{mod-add-div, mod-add-mod, add-mod-mod}
use Rattle.field.specs.Fields.{modulus, word_inverse, square}
use Rattle.field.proofs.Fields.{modulus-half, word-inverse, square-is}
use Rattle.word_montgomery.proofs.Words.{same}
use Rattle.word_row.specs.Montgomery.{Modulus, Factor, lift_of}
use Rattle.word_row.specs.Rows.{minus_product}

-- over the quotients and remainders of every division
module _ (p e k m g a s b y l c h t r r' : ℕ)
    (inverse : p * e ≡ 1 + 65536 * k)
    (lifted : g + p * a ≡ 65536 * m)
    (side : s + 65536 * b ≡ g * e)
    (low : l + 65536 * c ≡ y * s)
    (high : r + 65536 * h ≡ y * g)
    (high' : r' + 65536 * t ≡ l * p)
    (lr : r < 65536) (lr' : r' < 65536) where
  low_halves : r ≡ r'
  low_halves = omega (arith, ap (λ x. x * p) low, ap (λ x. x * (y * p)) side, ap (λ x. x * (g * y)) inverse)

  times-word : 65536 * (m * y) + 65536 * t ≡ 65536 * h + p * (a * y + l)
  times-word = omega (arith, low_halves, ap (λ x. x * y) lifted)

  differ : h + p * (e * (m * y + t)) ≡ m * y + t + p * (e * h + k * (a * y + l))
  differ = omega (arith, ap (λ x. x * (m * y + t)) inverse, ap (λ x. x * h) inverse, ap (λ x. k * x) times-word)

pub product-halves : {p e m g s : ℕ} (y h t : ℕ) → Factor p e m g s → t < p → h ≡ y * g / 65536 → t ≡ y * s % 65536 * p / 65536
    → (h + (p - t)) % p ≡ (m * y) % p
product-halves {p} {e} {m} {g} {s} y h t f lt eh et =
    let k = p * e / 65536 in
    let a = m * 65536 / p in
    let l = y * s % 65536 in
    let equation = differ p e k m g a s (g * e / 65536) y l (y * s / 65536) h t (y * g % 65536) (l * p % 65536)
    (omega (arith, f.inverse)) (omega (arith, f.lifted, mod-add-div (m * 65536) p)) (omega (arith, f.side)) (omega arith)
    (omega (arith, eh)) (omega (arith, et)) (omega arith) (omega arith) in
    same p (h + (p - t)) (m * y) (e * (m * y + t)) (1 + (e * h + k * (a * y + l))) (omega (arith, equation))

pub added : {p e m g s : ℕ} (x y h t a r : ℕ) → Factor p e m g s → t < p → h ≡ y * g / 65536 → t ≡ y * s % 65536 * p / 65536
    → a ≡ (x + (p - t)) % p → r ≡ (a + h) % p → r ≡ (x + m * y) % p
added {p} {m = m} x y h t a r f lt eh et ea er =
    er
    ∙ ap (λ n. (n + h) % p) ea
    ∙ mod-add-mod (x + (p - t)) p h
    ∙ ap (λ n. n % p) regroup
    ∙ sym (add-mod-mod x (h + (p - t)) p)
    ∙ ap (λ n. (x + n) % p) (product-halves y h t f lt eh et)
    ∙ add-mod-mod x (m * y) p
  where
    regroup : x + (p - t) + h ≡ x + (h + (p - t))
    regroup = omega arith

-- the constants
pub square-factor : {p e r s : ℕ} → Modulus p e r → s ≡ r * e % 65536 → Factor p e 65536 r s
square-factor o es = record { half = o.half; inverse = o.inverse; lifted = o.square; side = es }

pub lifted-factor : {p e r m g s : ℕ} → Modulus p e r → g ≡ (0 + 65536 * m) % p → s ≡ g * e % 65536 → Factor p e m g s
lifted-factor {p} {m = m} o eg es = record {
  half = o.half;
  inverse = o.inverse;
  lifted = eg ∙ ap (λ n. n % p) (zero-add (65536 * m) ∙ mul_comm 65536 m);
  side = es;
}

pub factor-below : {p e m g s : ℕ} → Factor p e m g s → g < p
factor-below {p} {m = m} f = omega (arith, f.lifted, f.half, mod-lt (m * 65536) {m = p} (omega (arith, f.half)))

-- the constants of a field
pub square-below : (k : ℕ) → square k < modulus k
square-below k = rw (square-is k) (mod-lt (65536 * 65536) (omega (arith, modulus-half k)))

pub modulus-at : (k : ℕ) {p e r : ℕ} → p ≡ modulus k → e ≡ word_inverse k → r ≡ square k → Modulus p e r
modulus-at k a b c = rw (a, b, c) (record { half = modulus-half k; inverse = word-inverse k; square = square-is k })

-- minus a product, by Montgomery's product with the lift of one factor: over the quotients and remainders of every division
module _ (p m i j n : ℕ) (factor : m ≡ i + p * j) (less : n + i ≡ p) where
  lift-same : (r k d : ℕ) → d + r ≡ p → 65536 * 65536 ≡ r + p * k
      → m * d + p * (65536 * 65536 + j * r) ≡ n * 65536 * 65536 + p * (m + i * k)
  lift-same r k d full whole =
      omega (arith, ap (λ z. m * z) full, ap (λ z. z * (65536 * 65536)) less, ap (λ z. i * z) whole, ap (λ z. z * r) factor)

  minus-same : (a c l w z : ℕ) → a * m ≡ c + p * l → w + p * z + c ≡ p
      → n * 65536 * a + p * (65536 * (1 + l)) ≡ w * 65536 + p * (65536 * (a + j * a + z))
  minus-same a c l w z product rest =
      omega (arith, ap (λ z. 65536 * (z * a)) less, ap (λ z. 65536 * (z * a)) factor, ap (λ z. 65536 * z) product, ap (λ z. 65536 * z) rest)

module _ {p e r : ℕ} (o : Modulus p e r) (m : ℕ) where
  positive : 0 < p
  positive = omega (arith, o.half)

  -- -m · 2^16
  abbrev minus : ℕ
  minus = (p - m % p) * 65536

  lift-factor : {lift s : ℕ} → lift ≡ lift_of p r m → s ≡ lift * e % 65536 → Factor p e minus lift s
  unfolding lift_of
  lift-factor el es =
      let below = mod-lt m positive in
      let low = mod-lt (65536 * 65536) positive in
      record {
        half = o.half;
        inverse = o.inverse;
        lifted =
            el
            ∙ same p (m * (p - r)) (minus * 65536) _ _
            (lift-same p m (m % p) (m / p) (p - m % p) (sym (mod-add-div m p)) (omega arith) r (65536 * 65536 / p) (p - r) (omega (arith, o.square))
            (omega (arith, o.square, mod-add-div (65536 * 65536) p)));
        side = es;
      }

  minus-factor : (a : ℕ) {g s : ℕ} → g ≡ (0 + minus * a) % p → s ≡ g * e % 65536 → Factor p e (minus_product p a m) g s
  unfolding minus_product
  minus-factor a eg es =
      let rest = p - a * m % p in
      let below = mod-lt m positive in
      let small = mod-lt (a * m) positive in
      record {
        half = o.half;
        inverse = o.inverse;
        lifted =
            eg
            ∙ same p (0 + minus * a) (rest % p * 65536) _ _
            (ap (λ z. z + p * (65536 * (1 + a * m / p))) (zero-add (minus * a))
            ∙ minus-same p m (m % p) (m / p) (p - m % p) (sym (mod-add-div m p)) (omega arith) a (a * m % p) (a * m / p) (rest % p) (rest / p) (sym (mod-add-div (a * m) p))
            (omega (arith, mod-add-div rest p)));
        side = es;
      }

-- the same of a field
pub lift-at : (k m : ℕ) {p e lift s : ℕ} → p ≡ modulus k → e ≡ word_inverse k → lift ≡ lift_of (modulus k) (square k) m → s ≡ lift * e % 65536
    → Factor p e ((p - m % p) * 65536) lift s
lift-at k m ep ee el es = lift-factor (modulus-at k ep ee refl) m (el ∙ ap (λ q. lift_of q (square k) m) (sym ep)) es

pub minus-at : (k m a : ℕ) {p e g s : ℕ} → p ≡ modulus k → e ≡ word_inverse k → g ≡ (0 + (p - m % p) * 65536 * a) % p → s ≡ g * e % 65536
    → Factor p e (minus_product p a m) g s
minus-at k m a ep ee eg es = minus-factor (modulus-at k ep ee refl) m a eg es
