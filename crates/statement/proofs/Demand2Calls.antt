-- What a call's own contract says implies what demand 2 says of it.
--     slice-holds     a call that completes: no refusal applied, and its slice holds the result
--     word-is         the same of a call that answers a word
-- Assumes nothing.
use mathlib.Core.Path.{◌≡◌, refl, sym, ◌∙◌, ap, subst}
use mathlib.Core.List.{List, [], ◌∷◌}
use mathlib.Core.Bool.{Bool, true, false, cond}
use Prim.Native.Nat.{ℕ, ◌<◌}
use native.Mathlib.Nat.{pos_of_ne-zero}
use native.Mathlib.Omega.{arith}
use lib.Dec.{leb, eqb}
use lib.ListN.{get_or, length}
use borrow.Author.Tests.{eqb-true, eqb-false, leb-false}
use Rattle.std.specs.Prelude.{Ok}
use Rattle.refusal.specs.Refusal.{Reply, reply, written, Outcome}
use Rattle.refusal.specs.Lowest.{lowest}
use Rattle.field.specs.Fields.{p, F65521, field_at, longest}
use Rattle.refusal.proofs.First.{first-is, refuse-done, or-false}
use Rattle.field.specs.Field as field
use Rattle.field.specs.Field.{operand_refusals, inverse_refusals, inverse_of}
use Rattle.lists.specs.Degrees.{significant, extent}
use Rattle.lists.specs.Operations.{evaluate}
use Rattle.list_product.specs.Calls.{product_answer, product_written, raise_answer, raise_written}
use Rattle.list_sum.specs.Calls.{sum_answer, sum_written, difference_written}
use Rattle.list_extent.specs.Calls.{extent_values, extent_rows, extent_answer, trim_answer, trim_written}
use Rattle.list_derivative.specs.Calls.{derivative_answer, derivative_written}
use Rattle.list_value.specs.Calls.{evaluate_rows, evaluate_answer}
use Rattle.statement.specs.Meant.{TheWord, TheValue, TheList, TheTrim, IsExtent}
use Rattle.statement.proofs.Demand2.{of-engine}
use Rattle.refusal.proofs.Answers.{done-reply}
use Rattle.statement.specs.Demand2Calls.{Answers, ProductSo, RaiseSo, SumSo, DifferenceSo, TrimSo, DerivativeSo, ExtentSo, ValueSo, WordSumSo, WordDifferenceSo, WordProductSo, InverseSo}

pub slice-holds : (P : List ℕ → Type 0) (o : Outcome) (new old : List ℕ) {out : List ℕ} {r : Reply} → r ≡ reply o [] → out ≡ written o new old
    → (o ≡ Ok tt → P new) → Answers r [] → P out
slice-holds P o new old e w h a =
    let d = (done-reply o [] [] (sym a ∙ e)).0 in subst P (sym (w ∙ ap (λ o. written o new old) d)) (h d)

pub word-is : (P : ℕ → Type 0) (o : Outcome) (v : ℕ) {r : Reply} → r ≡ reply o (v ∷ []) → (o ≡ Ok tt → P v) → (w : ℕ) → Answers r (w ∷ []) → P w
word-is P o v e h w a =
    let d = done-reply o (w ∷ []) (v ∷ []) (sym a ∙ e) in subst P (sym (ap (λ l. get_or l 0 0) d.1)) (h d.0)

pub product-so : (f g old : List ℕ) {out : List ℕ} {r : Reply} → r ≡ product_answer 0 f g old
    → out ≡ product_written 0 f g old → ProductSo F65521 f g out r
unfolding field_at longest
product-so f g old e w = slice-holds (TheList F65521 _ _) _ _ old e w (of-engine.of_product f g old)

pub raise-so : (f : List ℕ) (n : ℕ) (old : List ℕ) {out : List ℕ} {r : Reply} → r ≡ raise_answer 0 f n old
    → out ≡ raise_written 0 f n old → RaiseSo F65521 f n out r
unfolding field_at longest
raise-so f n old e w = slice-holds (TheList F65521 _ _) _ _ old e w (of-engine.of_raise f n old)

pub sum-so : (f g old : List ℕ) {out : List ℕ} {r : Reply} → r ≡ sum_answer 0 f g old
    → out ≡ sum_written 0 f g old → SumSo F65521 f g out r
unfolding field_at longest
sum-so f g old e w = slice-holds (TheList F65521 _ _) _ _ old e w (of-engine.of_sum f g old)

pub difference-so : (f g old : List ℕ) {out : List ℕ} {r : Reply} → r ≡ sum_answer 0 f g old
    → out ≡ difference_written 0 f g old → DifferenceSo F65521 f g out r
unfolding field_at longest
difference-so f g old e w = slice-holds (TheList F65521 _ _) _ _ old e w (of-engine.of_difference f g old)

pub trim-so : (f old : List ℕ) {out : List ℕ} {r : Reply} → r ≡ trim_answer 0 f old
    → out ≡ trim_written 0 f old → TrimSo F65521 f out r
unfolding field_at longest
trim-so f old e w = slice-holds (TheTrim F65521 f) _ _ old e w (of-engine.of_trim f old)

pub derivative-so : (f old : List ℕ) {out : List ℕ} {r : Reply} → r ≡ derivative_answer 0 f old
    → out ≡ derivative_written 0 f old → DerivativeSo F65521 f out r
unfolding field_at longest
derivative-so f old e w = slice-holds (TheList F65521 _ _) _ _ old e w (of-engine.of_derivative f old)

-- the operands of a call that completes are coefficients
operands : (a b : ℕ) → lowest (operand_refusals p a b) ≡ Ok tt → (a < p) × (b < p)
operands a b e =
    let l = (refuse-done _ _ _ (sym (first-is (operand_refusals p a b) tt) ∙ e)).0 in
    let t = or-false (leb p a) (leb p b) l in
    (leb-false p a t.0, leb-false p b t.1)

pub word-sum-so : (a b : ℕ) {r : Reply} → r ≡ reply (lowest (operand_refusals p a b)) (field.sum_of p a b ∷ []) → WordSumSo F65521 a b r
unfolding field_at
word-sum-so a b e =
    word-is (TheWord F65521 _) _ _ e (λ d. let l = operands a b d in (of-engine.of_coefficients a b l.0 l.1).0)

pub word-difference-so : (a b : ℕ) {r : Reply} → r ≡ reply (lowest (operand_refusals p a b)) (field.difference_of p a b ∷ [])
    → WordDifferenceSo F65521 a b r
unfolding field_at
word-difference-so a b e =
    word-is (TheWord F65521 _) _ _ e (λ d. let l = operands a b d in (of-engine.of_coefficients a b l.0 l.1).1)

pub word-product-so : (a b : ℕ) {r : Reply} → r ≡ reply (lowest (operand_refusals p a b)) (field.product_of p a b ∷ [])
    → WordProductSo F65521 a b r
unfolding field_at
word-product-so a b e =
    word-is (TheWord F65521 _) _ _ e (λ d. let l = operands a b d in (of-engine.of_coefficients a b l.0 l.1).2)

pub inverse-so : (a : ℕ) {r : Reply} → r ≡ reply (lowest (inverse_refusals p a)) (inverse_of F65521 a ∷ []) → InverseSo F65521 a r
unfolding field_at
inverse-so a e =
    word-is (field.IsInverse F65521.p a) _ _ e
    (λ d.
    let loose = refuse-done _ _ _ (sym (first-is (inverse_refusals p a) tt) ∙ d) in
    let zero = refuse-done (eqb a 0) _ _ loose.1 in
    of-engine.of_inverse a (pos_of_ne-zero (eqb-false a 0 zero.0)) (leb-false p a loose.0))

pub value-so : (f : List ℕ) (x : ℕ) {r : Reply} → r ≡ evaluate_answer 0 f x → ValueSo F65521 f x r
value-so f x e = word-is (TheValue F65521 f x) (lowest (evaluate_rows p (longest 0) f x)) (evaluate F65521 f x) e (λ d. of-engine.of_value f x)

pub extent-so : (f : List ℕ) {r : Reply} → r ≡ extent_answer 0 f → ExtentSo f r
unfolding extent_values
extent-so f {r} e = go (eqb (significant f) 0) refl
  where
    values : (v : List ℕ) → Answers r v → v ≡ extent_values f
    values v a = (done-reply (lowest (extent_rows p (longest 0) f)) v (extent_values f) (sym a ∙ e)).1

    go : (b : Bool) → eqb (significant f) 0 ≡ b → ExtentSo f r
    go true z =
        record {
          extent = λ k a. let n = ap length (values (k ∷ []) a ∙ ap (λ b. cond b [] (extent f ∷ [])) z) in absurd (omega arith);
          zero-list = λ a. of-engine.of_zero f (eqb-true _ _ z);
        }
    go false z =
        record {
          extent =
              λ k a.
              let n = ap (λ l. get_or l 0 0) (values (k ∷ []) a ∙ ap (λ b. cond b [] (extent f ∷ [])) z) in
              subst (IsExtent f) (sym n) (of-engine.of_extent f (pos_of_ne-zero (eqb-false _ _ z)));
          zero-list = λ a. let n = ap length (values [] a ∙ ap (λ b. cond b [] (extent f ∷ [])) z) in absurd (omega arith);
        }
