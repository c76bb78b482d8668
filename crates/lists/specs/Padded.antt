-- A list in a longer slice.
--     padded n c     the words of c, then zeros, up to n words: "zeros after word w"
-- Theorems (proofs/Padded):
--     padded-is     n words that agree with c, and with 0 past its end, are these
-- Assumes nothing.
use Rattle.std.specs.Prelude.{List, ◌++◌, ℕ, ◌-◌, length, replicate}

unfoldable pub padded : ℕ → List ℕ → List ℕ
padded n c = c ++ replicate (n - length c) 0
