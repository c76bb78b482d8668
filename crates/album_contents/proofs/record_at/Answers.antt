-- `album_contents::record_at` meets its contract.
-- Assumes nothing.
use native.Mathlib.Omega.{arith}
use Rattle.album_contents.proofs.Records.{record-listed, record-past}
use Rattle.album_contents.proofs.record_at.Goals as goal

pub returns-then-k-byte_at : goal.returns-then-k-byte_at
returns-then-k-byte_at c = record-listed _ _ (omega arith) c.word_at-degree.ensures.0 c.word_at-offset.ensures.0

pub returns-else-k-byte_at : goal.returns-else-k-byte_at
returns-else-k-byte_at c = record-past _ _ (omega arith)
