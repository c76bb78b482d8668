-- `album_layout::body_at` meets its contract: the bytes that entry i names, or the empty part.
-- Assumes nothing.
use mathlib.Core.Path.{refl}
use native.Mathlib.Omega.{arith}
use Rattle.album_layout.proofs.Bodies.{named_past, named-out, body-none, body-part}
use Rattle.album_layout.proofs.body_at.Goals as goal

pub returns-then-lists-i : goal.returns-then-lists-i
returns-then-lists-i c = let none = body-none _ _ (named_past c.args.album.now c.args.i (omega arith)) in record { part = none.0; place = (refl, omega (arith, none.1)) }

pub returns-then-album-to : goal.returns-then-album-to
returns-then-album-to c = let none = body-none _ _ (named-out c.args.album.now c.args.i (omega arith)) in record { part = none.0; place = (refl, omega (arith, none.1)) }

pub returns : goal.returns
returns c = let part = body-part c.args.album.now c.args.i (omega arith) _ _ c.word_at-from.ensures.0 c.word_at.ensures.0 (omega arith) in record { part = part.0; place = (refl, omega (arith, part.1)) }
