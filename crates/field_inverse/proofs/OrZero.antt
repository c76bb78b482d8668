-- The inverse's answer as a word: its value, or 0 where it is refused.
-- Assumes nothing.
use mathlib.Core.Path.{◌≡◌, refl, sym, ◌∙◌, ap}
use mathlib.Core.List.{[], ◌∷◌}
use Prim.Native.Nat.{ℕ, ◌≤◌, ◌<◌}
use native.Mathlib.Decide.{dec_lt, ℕ_discrete}
use native.Mathlib.Omega.{arith}
use lib.ListN.{get_or}
use borrow.Author.Tests.{lt-ltb, le-ltb}
use Rattle.refusal.specs.declared.Refusal.{Refusal}
use Rattle.std.specs.Prelude.{Result, Ok, Err}
use Rattle.std.specs.Result.{result_unwrap_or}
use Rattle.algebra.specs.PrimeField.{PrimeField, positive}
use Rattle.refusal.specs.Refusal.{Reply, reply}
use Rattle.refusal.specs.Lowest.{lowest}
use Rattle.field.specs.Field.{word_reply, inverse_refusals, inverse_of, inverse_or_zero}
use Rattle.field.proofs.Field.{inverse-is}
use Rattle.field_inverse.proofs.Answers.{inverse-loose, inverse-zero, answered}

module _ (F : PrimeField) where
  pub inverse-some : (a : ℕ) → 0 < a → a < F.p → inverse_or_zero F a ≡ inverse_of F a
  unfolding inverse_or_zero
  inverse-some a h l = rw (lt-ltb 0 a h, lt-ltb a F.p l)

  -- the first value of a reply, or 0
  first : Reply → ℕ
  first r = get_or r.values 0 0

  none-loose : (a : ℕ) → F.p ≤ a → inverse_or_zero F a ≡ 0
  unfolding inverse_or_zero
  none-loose a l = let h = positive F in rw (lt-ltb 0 a (omega arith), le-ltb a F.p l)

  none-zero : (a : ℕ) → a ≡ 0 → inverse_or_zero F a ≡ 0
  unfolding inverse_or_zero
  none-zero a e = rw (le-ltb 0 a (omega arith))

  first-is : (a : ℕ) → Dec (a < F.p) → Dec (a ≡ 0) → first (reply (lowest (inverse_refusals F.p a)) (inverse_of F a ∷ [])) ≡ inverse_or_zero F a
  unfolding first
  first-is a (no l) z = rw (inverse-loose F.p a (omega arith)) (sym (none-loose a (omega arith)))
  first-is a (yes l) (yes z) = rw (inverse-zero F.p a l z) (sym (none-zero a z))
  first-is a (yes l) (no z) =
      let h : 0 < a = omega arith in
      let b = inverse-is F a h l in
      sym (ap first (answered F refl a (inverse_of F a) h l (record { high = b.high; one = b.one })).answer) ∙ sym (inverse-some a h l)

  -- the word of an answer, or 0, is the first value of its reply
  first-reply : (w : Result ℕ Refusal) → first (word_reply w) ≡ result_unwrap_or w 0
  unfolding first
  first-reply (Ok x) = refl
  first-reply (Err why) = refl

  pub inverse-word : {p : ℕ} → F.p ≡ p → (a : ℕ) (w : Result ℕ Refusal) → word_reply w ≡ reply (lowest (inverse_refusals p a)) (inverse_of F a ∷ [])
      → result_unwrap_or w 0 ≡ inverse_or_zero F a
  unfolding first
  inverse-word e a w h =
      sym (first-reply w) ∙ ap first h ∙ ap (λ n. first (reply (lowest (inverse_refusals n a)) (inverse_of F a ∷ []))) (sym e)
      ∙ first-is a (dec_lt a F.p) (ℕ_discrete a 0)
