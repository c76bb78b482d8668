-- What is known of a token that no arm of a `match` names.
--     other-sum         no + and no -
--     other-product     no *
-- Assumes nothing.
use mathlib.Core.Path.{◌≡◌, refl}
use mathlib.Core.Bool.{true}
use mathlib.Core.List.{List, ◌∷◌}
use Rattle.lines.specs.declared.Token.{Token}
use Rattle.lines.specs.declared.Token.TheVariants.{Number, Plus, Minus, Times, Derive, Open, Close, Wrong}
use Rattle.lines.specs.Internal.{ends_term, ends_sum}

pub other-sum : (t : Token) → (t ≡ Plus → ⊥) → (t ≡ Minus → ⊥) → (ts : List Token)
    → ends_term (t ∷ ts) ≡ true → ends_sum (t ∷ ts) ≡ true
other-sum (Number n) p m ts e = refl
other-sum Plus p m ts e = absurd (p refl)
other-sum Minus p m ts e = absurd (m refl)
other-sum Times p m ts e = e
other-sum Derive p m ts e = refl
other-sum Open p m ts e = refl
other-sum Close p m ts e = refl
other-sum Wrong p m ts e = refl

pub other-product : (t : Token) → (t ≡ Times → ⊥) → (ts : List Token)
    → ends_term (t ∷ ts) ≡ true
other-product (Number n) o ts = refl
other-product Plus o ts = refl
other-product Minus o ts = refl
other-product Times o ts = absurd (o refl)
other-product Derive o ts = refl
other-product Open o ts = refl
other-product Close o ts = refl
other-product Wrong o ts = refl
