-- The sums that the functions compute.
--     partial              the sum of the first k terms, as if there were no more
--     homogeneous_of       the sum of c · s_k · x^k · y^(n-k) over the words s_0 to s_n
--     power_of             x^k as a word
--     powers_of            the words x^0 to x^(n-1)
--     weights_of           word j of the first list times word n - 1 - j of the second: of powers of x and y, x^j · y^(n-1-j)
--     most_of_product      the largest product of two words of 16 bits
--     most_of_group        the largest sum of eight such products
--     products_of          the products of the words of s from k on with the first n of u, added up
--     groups               the words of s by groups of g, the words of each times those of u and added up
--     Terms                the sum of the first k terms as a word, and x^k, both times c
-- Assumes nothing.
use Rattle.std.specs.Prelude.{◌≡◌, List, ℕ, zero, suc, ◌+◌, ◌-◌, ◌*◌, ◌%◌, ◌<◌, length, get_or}
use Rattle.algebra.specs.Ring.{CommRing, pow}
use Rattle.algebra.specs.Sum.{total}
use Rattle.algebra.specs.PrimeField.{PrimeField, scalars, residue, value}
use Rattle.lists.specs.Tabulate.{tabulate}
use Rattle.lists.specs.Lists.{word}

-- s_j · x^j · y^(k-1-j) for each j below k
unfoldable pub partial : (Rg : CommRing) → (ℕ → Rg.Carrier) → (x y : Rg.Carrier) → ℕ → Rg.Carrier
partial Rg s x y k = total Rg k (λ j. Rg.mul (Rg.mul (s j) (pow Rg x j)) (pow Rg y (k - 1 - j)))

unfoldable pub homogeneous_of : PrimeField → List ℕ → (x y c : ℕ) → ℕ
homogeneous_of F s x y c = value F ((scalars F).mul (residue F c) (partial (scalars F) (word F s) (residue F x) (residue F y) (length s)))

unfoldable pub power_of : PrimeField → (x k : ℕ) → ℕ
power_of F x k = value F (pow (scalars F) (residue F x) k)

unfoldable pub powers_of : PrimeField → (x n : ℕ) → List ℕ
powers_of F x n = tabulate n (power_of F x)

unfoldable pub weights_of : (p n : ℕ) → (a b : List ℕ) → List ℕ
weights_of p n a b = tabulate n (λ j. (get_or a j 0 * get_or b (n - 1 - j) 0) % p)

abbrev pub most_of_product : ℕ
most_of_product = 4294836225

abbrev pub most_of_group : ℕ
most_of_group = 34358689800

unfoldable pub products_of : (s : List ℕ) → (k : ℕ) → (u : List ℕ) → (n : ℕ) → ℕ
products_of s k u zero = 0
products_of s k u (suc n) = products_of s k u n + get_or s (k + n) 0 * get_or u n 0

unfoldable pub groups : (F : PrimeField) → (g : ℕ) → (s u : List ℕ) → ℕ → (scalars F).Carrier
groups F g s u i = residue F (products_of s (g * i) u g)

pub record Terms (F : PrimeField) (w : ℕ → (scalars F).Carrier) (x y c k sum power : ℕ) : Type 0 where
  pub small : sum < F.p
  pub sums : residue F sum ≡ (scalars F).mul (residue F c) (partial (scalars F) w (residue F x) (residue F y) k)
  pub powers : residue F power ≡ (scalars F).mul (residue F c) (pow (scalars F) (residue F x) k)
