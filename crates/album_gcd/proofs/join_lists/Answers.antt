-- `album_gcd::join_lists` meets its contract.
-- Assumes nothing.
use mathlib.Core.Path.{◌≡◌, sym, ◌∙◌}
use mathlib.Core.List.{List}
use Prim.Native.Nat.{ℕ, ◌<◌}
use native.Mathlib.Omega.{arith}
use lib.ListN.{length, get_or}
use Rattle.field.specs.Fields.{modulus, field_at, longest}
use Rattle.field.proofs.Fields.{longest-full, longest-room}
use Rattle.album_layout.specs.Layout.{nth_list, lists_of, count}
use Rattle.album_layout.specs.Internal.{Passed}
use Rattle.album_layout.proofs.Places.{length-lists, list_at}
use Rattle.album_layout.proofs.Passed.{passed-obeys}
use Rattle.album_reader.specs.Internal.{Held, words_read, left_at}
use Rattle.album_reader.proofs.Held.{held-take, held-inside, held-count, held-again, read_held}
use Rattle.album_gcd.proofs.Folding.{folding-start, folding-next, folding-end}
use Rattle.album_gcd.proofs.join_lists.Goals as goal

-- the list that is read: m is the number of lists, out the slice before and out' after it is read to
list_held : (field : ℕ) (s out : List ℕ) {out' : List ℕ} {i m n : ℕ} → Passed (modulus field) s → ((j : ℕ) → get_or s j 0 < 256) → m ≡ count s → i < m
    → length out ≡ longest field → n ≡ words_read s i out → out' ≡ left_at s i out → Held (modulus field) (longest field) out' n (nth_list s i)
list_held field s out passed bytes e l size words left =
    read_held _ _ _ _ _ passed bytes (omega arith) size (omega (arith, longest-full field)) words left

pub loop-k-init : goal.loop-k-init
unfolding field_at
loop-k-init c = (
  c.requires.list_len.0,
  c.requires.list_len.1,
  folding-start (field_at _) _ _ _ (omega (arith, longest-full c.args.field)) c.requires.list_len.2 c.requires.by_index,
)

pub slice_bounds-join_list-end : goal.slice_bounds-join_list-end
slice_bounds-join_list-end c =
    let bytes = c.type_inv.album in
    held-inside (list_held _ _ _ c.requires.passed (λ j. omega (arith, bytes j)) c.byte_at-k-end.ensures.0 c.loop-k-test.true c.loop-k.invariant.0 c.read_at-n.ensures.answer c.read_at-n.ensures.writes)

pub slice_bounds-join_list-end-in-loop-k : goal.slice_bounds-join_list-end-in-loop-k
slice_bounds-join_list-end-in-loop-k c =
    let bytes = c.type_inv.album in
    held-count (list_held _ _ _ c.requires.passed (λ j. omega (arith, bytes j)) c.byte_at-k-end.ensures.0 c.loop-k-test.true c.loop-k.invariant.0 c.read_at-n.ensures.answer c.read_at-n.ensures.writes)

pub join_list-so_far-requires : goal.join_list-so_far-requires
unfolding field_at
join_list-so_far-requires c =
    let bytes = c.type_inv.album in
    let held = list_held _ _ _ c.requires.passed (λ j. omega (arith, bytes j)) c.byte_at-k-end.ensures.0 c.loop-k-test.true c.loop-k.invariant.0 c.read_at-n.ensures.answer c.read_at-n.ensures.writes in
    let counted = c.byte_at-k-end.ensures in
    let few = (passed-obeys _ _ c.requires.passed).few in
    let so_far = c.loop-k.invariant.2 in
    record { list = (held-again held).listed; held = held-again so_far.held; last_len = (c.loop-k.invariant.1, omega (arith, so_far.few)) }

pub loop-k-preserved : goal.loop-k-preserved
loop-k-preserved c =
    let bytes = c.type_inv.album in
    let held = list_held _ _ _ c.requires.passed (λ j. omega (arith, bytes j)) c.byte_at-k-end.ensures.0 c.loop-k-test.true c.loop-k.invariant.0 c.read_at-n.ensures.answer c.read_at-n.ensures.writes in
    let s = c.args.album.now in
    let counted = c.byte_at-k-end.ensures in (
      omega arith,
      omega arith,
      folding-next (field_at _) _ (lists_of s) (longest-room _) c.loop-k.invariant.2 (omega (arith, length-lists s))
          (held-take held ∙ sym (list_at s _ (omega arith))) c.join_list-so_far.ensures,
    )

pub returns : goal.returns
returns c = folding-end (field_at _) _ (lists_of c.args.album.now) c.loop-k.invariant.2 (omega (arith, length-lists c.args.album.now))
