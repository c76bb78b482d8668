-- The GCD of two lists f and g, and its cofactors, as document 01 has them.
--     euclid_of         Euclid's rounds from the pair x = scaled form of g, y = scaled form of f, until y is 0: the last x, the number of
--                      rounds, and the factors by_x and by_y with by_x · x + by_y · y = the last x
--     gcd_of            h: the list whose scaled form is the last x, made to have last word 1; its naive degree w is its extent
--     rounds_of         rounds, the number of rounds
--     powers, least     the powers of the lists that are not zero; the least of some numbers
--     common_power      c: the least power among the lists that are not zero
--     identity_degree   m = max(d,1) + max(e,1) - 1, for lists of naive degrees d and e
--     cofactor_a        a, of naive degree m - d
--     cofactor_b        b, of naive degree m - e
-- Assumes nothing.
use Rattle.std.specs.Prelude.{cond, List, [], ◌∷◌, ℕ, suc, ◌+◌, ◌-◌, max, min, eqb, length}
use Rattle.algebra.specs.PrimeField.{PrimeField, scalar_field}
use Rattle.algebra.specs.Series.{C}
use Rattle.algebra.specs.Degree.{size}
use Rattle.algebra.specs.Euclid.{Euclid, euclid}
use Rattle.algebra.specs.Monic.{monic, top_inverse}
use Rattle.lists.specs.Degrees.{naive_degree, significant, power}
use Rattle.lists.specs.Lists.{scaled, unscaled}

-- enough words for both lists
unfoldable pub room : (f g : List ℕ) → ℕ
room f g = max (length f) (length g)

unfoldable pub identity_degree : (f g : List ℕ) → ℕ
identity_degree f g = max (naive_degree f) 1 + max (naive_degree g) 1 - 1

unfoldable pub powers : List (List ℕ) → List ℕ
powers [] = []
powers (c ∷ lists) = cond (eqb (significant c) 0) (powers lists) (power c ∷ powers lists)

unfoldable pub least : List ℕ → ℕ
least [] = 0
least (a ∷ []) = a
least (a ∷ b ∷ rest) = min a (least (b ∷ rest))

unfoldable pub common_power : List (List ℕ) → ℕ
common_power lists = least (powers lists)

module _ (F : PrimeField) where
  unfoldable pub euclid_of : (f g : List ℕ) → Euclid F.series (scalar_field F)
  euclid_of f g = euclid F.series (scalar_field F) (room f g) (room f g) (scaled F g) (scaled F f)

  unfoldable pub gcd_of : (f g : List ℕ) → List ℕ
  gcd_of f g =
      unscaled F (size F.series (scalar_field F) (room f g) (euclid_of f g).last)
      (monic F.series (scalar_field F) (room f g) (euclid_of f g).last)

  unfoldable pub rounds_of : (f g : List ℕ) → ℕ
  rounds_of f g = (euclid_of f g).rounds

  unfoldable pub cofactor_a : (f g : List ℕ) → List ℕ
  cofactor_a f g =
      unscaled F (suc (identity_degree f g - naive_degree f))
      (F.series.ring.mul (C F.series (top_inverse F.series (scalar_field F) (room f g) (euclid_of f g).last)) (euclid_of f g).by_y)

  unfoldable pub cofactor_b : (f g : List ℕ) → List ℕ
  cofactor_b f g =
      unscaled F (suc (identity_degree f g - naive_degree g))
      (F.series.ring.mul (C F.series (top_inverse F.series (scalar_field F) (room f g) (euclid_of f g).last)) (euclid_of f g).by_x)
