-- What the functions behind the GCD need and do.
--     Ready n f g         two lists of at most n words, each below p, that are not both zero
--     Zeros n x y kept    two slices of n zeros, and 3 n words for quotients
--     Buffer n x          n words, each below p
--     Holds n x s         a buffer whose words are the coefficients of s
--     euclid_on n x y     what Euclid's rounds answer on the series of x and y
--     RoundKept           what a round on x and y leaves: the remainder in x, and its quotient, with the number of its words, after the words kept
--     Led                 the rounds have led from the buffers x₀, y₀ to x, y: the last x is the same, the rounds made and those that are left
--                         are all the rounds, and their quotients are kept
--     Ends n x₀ y₀ x       the buffer x holds the last x of the rounds from x₀, y₀, and the quotients are kept
--     monic_list n s       the list of the scaled form s, of at most n coefficients, made to have last word 1
--     monic_words n x      the words of the list of a buffer so, in a slice of n words, zeros after it
--     last_inverse x       1 over the last coefficient of the words x
--     LastOf n f g x       the buffer x holds the last x of the rounds on f and g
--     TrailOf n f g        the quotients of these rounds are kept
--     Numbers f g          w, c, the number of rounds, and 1 over the last coefficient of the last x
--     gcd_done f g         the answer of the GCD of f and g: w, c and rounds
-- Assumes nothing.
use Rattle.std.specs.Prelude.{◌≡◌, List, [], ◌∷◌, ◌++◌, ℕ, suc, ◌+◌, ◌*◌, ◌≤◌, ◌<◌, get_or, length}
use Rattle.algebra.specs.Ring.{CommRing}
use Rattle.algebra.specs.Degree.{size}
use Rattle.algebra.specs.Euclid.{Euclid, done, euclid}
use Rattle.algebra.specs.Monic.{monic, top_inverse}
use Rattle.algebra.specs.PrimeField.{PrimeField, scalar_field, scalars, residue}
use Rattle.lists.specs.Degrees.{naive_degree, significant}
use Rattle.lists.specs.Lists.{Coefficients, unscaled}
use Rattle.lists.specs.Padded.{padded}
use Rattle.lists.specs.Words.{series_of}
use Rattle.euclid_theory.specs.Gcd.{room, euclid_of, gcd_of, rounds_of, common_power}
use Rattle.euclid_round.specs.Round.{round_steps, remaining, quotient_words}
use Rattle.list_gcd.specs.Quotients.{Trail}
use Rattle.list_gcd.specs.declared.Gcd.{Gcd}

pub record Zeros (n : ℕ) (x y kept : List ℕ) : Type 0 where
  pub size_x : length x ≡ n
  pub size_y : length y ≡ n
  pub size-kept : length kept ≡ 3 * n
  pub zeros_x : (k : ℕ) → get_or x k 0 ≡ 0
  pub zeros_y : (k : ℕ) → get_or y k 0 ≡ 0

module _ (F : PrimeField) where
  open F.series.ring use {Carrier as S}

  pub record Ready (n : ℕ) (f g : List ℕ) : Type 0 where
    pub short_f : length f ≤ n
    pub short_g : length g ≤ n
    pub coefficients_f : Coefficients F f
    pub coefficients_g : Coefficients F g
    pub some : 0 < significant f + significant g

  pub record Buffer (n : ℕ) (x : List ℕ) : Type 0 where
    pub size : length x ≡ n
    pub below : (k : ℕ) → get_or x k 0 < F.p

  pub record Holds (n : ℕ) (x : List ℕ) (s : S) : Type 0 where
    pub buffer : Buffer n x
    pub series : series_of F x ≡ s

  unfoldable pub euclid_on : ℕ → (x y : List ℕ) → Euclid F.series (scalar_field F)
  euclid_on n x y = euclid F.series (scalar_field F) n n (series_of F x) (series_of F y)

  unfoldable pub monic_list : ℕ → S → List ℕ
  monic_list n s = unscaled F (size F.series (scalar_field F) n s) (monic F.series (scalar_field F) n s)

  pub record RoundKept (x y words : List ℕ) (steps left : ℕ) (x' words' : List ℕ) : Type 0 where
    pub steps_are : steps ≡ round_steps x y
    pub count : left ≡ significant x'
    pub remainder : x' ≡ remaining F x y
    pub quotient : words' ≡ words ++ (quotient_words F x y ++ (steps ∷ []))

  pub record Led (n : ℕ) (x₀ y₀ x y : List ℕ) (rounds : ℕ) (words : List ℕ) : Type 0 where
    pub buffer_x : Buffer n x
    pub buffer_y : Buffer n y
    pub last : (euclid_on n x y).last ≡ (euclid_on n x₀ y₀).last
    pub count : rounds + (euclid_on n x y).rounds ≡ (euclid_on n x₀ y₀).rounds
    pub trail : Trail F n (euclid_on n x₀ y₀) (euclid_on n x y) words

  pub record Ends (n : ℕ) (x₀ y₀ last : List ℕ) (rounds : ℕ) (words : List ℕ) : Type 0 where
    pub count : rounds ≡ (euclid_on n x₀ y₀).rounds
    pub holds : Holds n last (euclid_on n x₀ y₀).last
    pub trail : Trail F n (euclid_on n x₀ y₀) (done F.series (scalar_field F) (series_of F last)) words

  abbrev pub monic_words : ℕ → (x : List ℕ) → List ℕ
  monic_words n x = padded n (monic_list (length x) (series_of F x))

  -- 1 over the last coefficient of the words x
  abbrev pub last_inverse : (x : List ℕ) → CommRing.Carrier (scalars F)
  last_inverse x = top_inverse F.series (scalar_field F) (length x) (series_of F x)

  pub record LastOf (n : ℕ) (f g last : List ℕ) : Type 0 where
    pub buffer : Buffer n last
    pub size : significant last ≡ suc (naive_degree (gcd_of F f g))
    pub list : monic_list n (series_of F last) ≡ gcd_of F f g
    pub inverse : last_inverse last ≡ top_inverse F.series (scalar_field F) (room f g) (euclid_of F f g).last

  pub record TrailOf (n : ℕ) (f g words : List ℕ) : Type 0 where
    pub last : S
    pub trail : Trail F n (euclid_of F f g) (done F.series (scalar_field F) last) words

  pub record Numbers (f g : List ℕ) (degree power rounds inverse : ℕ) : Type 0 where
    pub degree-is : degree ≡ naive_degree (gcd_of F f g)
    pub power-is : power ≡ common_power (f ∷ g ∷ [])
    pub rounds_are : rounds ≡ rounds_of F f g
    pub inverse-is : residue F inverse ≡ top_inverse F.series (scalar_field F) (room f g) (euclid_of F f g).last

  unfoldable pub gcd_done : (f g : List ℕ) → Gcd
  gcd_done f g =
      record {
        degree = record { 0 = naive_degree (gcd_of F f g) };
        power = record { 0 = common_power (f ∷ g ∷ []) };
        rounds = record { 0 = rounds_of F f g };
      }
