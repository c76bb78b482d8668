-- `album_gcd::gcd_in` meets its contract: where no list has a power, all are zero.
-- Assumes nothing.
use mathlib.Core.Path.{sym, subst, ◌∙◌}
use native.Mathlib.Omega.{arith}
use Rattle.field.specs.Fields.{field_at}
use Rattle.field.proofs.Fields.{longest-in, longest-full}
use Rattle.album_layout.specs.Layout.{lists_of}
use Rattle.album_layout.proofs.Passed.{passed-each}
use Rattle.words.proofs.Transfer.{copied-fit}
use Rattle.album_gcd.specs.Internal.{IsLeast}
use Rattle.album_gcd.proofs.Judging.{judged-zero, judged-misfit, judged-done}
use Rattle.album_gcd.proofs.Zeros.{nonzero}
use Rattle.album_gcd.proofs.Finish.{refused, answered}
use Rattle.album_gcd.proofs.gcd_in.Goals as goal

pub returns-in_default : goal.returns-in_default
unfolding field_at
returns-in_default c =
    let none = subst (IsLeast (lists_of c.args.album.now)) c.in_default.is c.join_lists-found.ensures.least in
    refused (field_at _) _ _ _ (sym (judged-zero _ _ _ _ c.requires.passed none))

pub returns-then-h-longest_of : goal.returns-then-h-longest_of
unfolding field_at
returns-then-h-longest_of c =
    let some = subst (IsLeast (lists_of c.args.album.now)) c.in-Some.is c.join_lists-found.ensures.least in
    refused (field_at _) _ _ _ (sym (judged-misfit _ _ _ _ c.requires.passed some.0 (λ e. c.if-h-longest_of.true (e ∙ sym c.longest_of.ensures))))

pub returns : goal.returns
unfolding field_at
returns c =
    let s = c.args.album.now in
    let found = c.join_lists-found.ensures in
    let some = subst (IsLeast (lists_of s)) c.in-Some.is found.least in
    rw (c.copy.ensures ∙ copied-fit _ _ (omega (arith, c.requires.list_len, c.if-h-longest_of.false, c.longest_of.ensures)))
    (answered (field_at _) _ (longest-in _) s c.args.h.now
    (passed-each _ s c.requires.passed _ (omega (arith, longest-full c.args.field))) (nonzero (lists_of s) some.0)
    (judged-done _ _ s _ c.requires.passed some.0 (c.if-h-longest_of.false ∙ c.longest_of.ensures)) found some.1)
