-- What ties a loop on buffers to the definitions. Euclid's rounds in any room: a loop on buffers of n words, n at least the lengths of
-- both lists, ends with what the definitions name. A list followed by zeros, word by word.
-- Assumes nothing.
use mathlib.Core.Path.{◌≡◌, sym, ◌∙◌, ap, ap₂}
use mathlib.Core.List.{List}
use Prim.Native.Nat.{ℕ, ◌-◌, ◌≤◌}
use native.Mathlib.Omega.{arith}
use lib.ListN.{length}
use Rattle.algebra.specs.Series.{C}
use Rattle.algebra.proofs.Polynomial.{below-mono}
use Rattle.algebra.specs.Degree.{size}
use Rattle.algebra.proofs.Degree.{size-le, size-least, size_same}
use Rattle.algebra.specs.Euclid.{Euclid, euclid}
use Rattle.algebra.proofs.Euclid.{euclid-fuel, euclid-room}
use Rattle.algebra.specs.Monic.{top_inverse, monic}
use Rattle.algebra.proofs.Monic.{monic-is}
use Rattle.algebra.specs.PrimeField.{PrimeField, scalar_field}
use Rattle.lists.specs.Lists.{scaled, unscaled}
use Rattle.lists.proofs.Scaled.{below-scaled}
use Rattle.euclid_theory.specs.Gcd.{room, euclid_of, gcd_of, rounds_of}
use Rattle.euclid_theory.proofs.Gcd.{fits-left, fits-right, rounds-ok}

module _ (F : PrimeField) where
  open F.series.ring use {mul as ◌*ˢ◌}

  infixl 70 ◌*ˢ◌
  module _ (n : ℕ) (f g : List ℕ) (lf : length f ≤ n) (lg : length g ≤ n) where
    room-least : room f g ≤ n
    unfolding room
    room-least = omega arith

    -- the rounds in a room of n words
    abbrev answer : Euclid F.series (scalar_field F)
    answer = euclid F.series (scalar_field F) n n (scaled F g) (scaled F f)

    pub rounds-room : euclid_of F f g ≡ euclid F.series (scalar_field F) n n (scaled F g) (scaled F f)
    unfolding euclid_of
    rounds-room =
        euclid-room F.series (scalar_field F) (room f g) (room f g) n (fits-right F f g) (fits-left F f g)
        (below-mono F.series lg (below-scaled F g)) (below-mono F.series lf (below-scaled F f))
        ∙ euclid-fuel F.series (scalar_field F) (room f g) n n (below-mono F.series lg (below-scaled F g))
        (below-mono F.series lf (below-scaled F f)) few (size-le F.series (scalar_field F) n (scaled F f))
      where
        few : size F.series (scalar_field F) n (scaled F f) ≤ room f g
        few = size-least F.series (scalar_field F) n (room f g) (fits-left F f g)

    pub count_room : rounds_of F f g ≡ answer.rounds
    unfolding rounds_of
    count_room = ap (λ z. z.rounds) rounds-room

    size-same-last : size F.series (scalar_field F) (room f g) (euclid_of F f g).last
        ≡ size F.series (scalar_field F) n (euclid_of F f g).last
    size-same-last =
        size_same F.series (scalar_field F) (room f g) n (rounds-ok F f g).below
        (below-mono F.series room-least (rounds-ok F f g).below)

    -- the number of coefficients of the last x
    pub size_room : size F.series (scalar_field F) (room f g) (euclid_of F f g).last
        ≡ size F.series (scalar_field F) n answer.last
    size_room = size-same-last ∙ ap (λ z. size F.series (scalar_field F) n z.last) rounds-room

    -- 1 over its last coefficient
    pub top_inverse-room : top_inverse F.series (scalar_field F) (room f g) (euclid_of F f g).last
        ≡ top_inverse F.series (scalar_field F) n answer.last
    top_inverse-room = first ∙ ap (λ z. top_inverse F.series (scalar_field F) n z.last) rounds-room
      where
        first : top_inverse F.series (scalar_field F) (room f g) (euclid_of F f g).last
            ≡ top_inverse F.series (scalar_field F) n (euclid_of F f g).last
        first = unfold top_inverse in ap (λ k. (scalar_field F).inv (F.series.coeff (euclid_of F f g).last (k - 1))) size-same-last

    pub monic-room : monic F.series (scalar_field F) (room f g) (euclid_of F f g).last
        ≡ monic F.series (scalar_field F) n answer.last
    monic-room =
        monic-is F.series (scalar_field F) (room f g) _
        ∙ ap₂ (λ a z. C F.series a *ˢ z.last) top_inverse-room rounds-room ∙ sym (monic-is F.series (scalar_field F) n _)

    -- h from a loop in a room of n words
    pub gcd-room : gcd_of F f g
        ≡ unscaled F (size F.series (scalar_field F) n answer.last) (monic F.series (scalar_field F) n answer.last)
    unfolding gcd_of
    gcd-room = ap₂ (unscaled F) size_room monic-room
