-- `album_layout::body_over` meets its contract: a list that can be read lies in the album.
-- Assumes nothing.
use mathlib.Core.Path.{refl, sym, ◌∙◌, ap}
use native.Mathlib.Omega.{arith}
use lib.ListN.{length}
use Rattle.album_layout.proofs.Bodies.{body-some, body-done, body_refused}
use Prim.Native.Nat.{◌+◌}
use Rattle.album_layout.proofs.body_over.Goals as goal

pub returns-then-is_err : goal.returns-then-is_err
returns-then-is_err c =
    let none = body_refused _ _ _ c.judge_call.ensures (sym c.is_err.ensures.value ∙ c.if-is_err.true) in
    record { part = none.0; place = (refl, omega (arith, none.1)); some = λ d. absurd (none.2 d) }

pub returns : goal.returns
returns c =
    let s = c.args.album.now in
    let found = c.body_at.ensures in
    let same = body-done _ _ _ c.judge_call.ensures (sym c.is_err.ensures.value ∙ c.if-is_err.false) in
    let bytes = c.type_inv.album in
    record {
      part = found.part ∙ same.0;
      place = (found.place.0, found.place.1 ∙ ap (λ k. c.args.album.ref_ptr.1 + k) same.1);
      some = λ d. omega (arith, ap length found.part, body-some s c.args.i same.2 same.3 (λ k. omega (arith, bytes k)));
    }
