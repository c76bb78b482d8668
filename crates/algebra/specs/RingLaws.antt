-- The laws of commutative rings that the definitions of further rings need, each over any ring, and the rules for `simp`.
--     add_assoc, …                          the ring's own laws, as lemmas over the ring, as a ruleset takes them
--     neg_unique                            what added to a gives 0 is -a
--     add_left_cancel, add_right_cancel     a term on both sides cancels
--     eq_of_sub, sub_of_eq                  a = b where a - b = 0, and conversely
--     move                                  a = c - b where a + b = c
--     Ac                                    associativity and commutativity
--     CANCEL                                a term and its negative that do not stand side by side
--     RING                                  the rules that bring both sides of an equation of a ring to one form: `simp RING`
-- Assumes nothing.
use Rattle.std.specs.Prelude.{◌≡◌}
use Rattle.std.proofs.Common.{sym, ◌∙◌, ap}
use Rattle.algebra.specs.Ring.{CommRing}

module _ (R : CommRing) where
  open R use {Carrier, zero, one, neg, add as ◌+◌, mul as ◌*◌}

  infixl 65 ◌+◌
  infixl 70 ◌*◌
  pub add_assoc : (a b c : Carrier) → a + b + c ≡ a + (b + c)
  add_assoc = R.add_assoc

  pub add_comm : (a b : Carrier) → a + b ≡ b + a
  add_comm = R.add_comm

  pub add-zero : (a : Carrier) → a + zero ≡ a
  add-zero = R.add-zero

  pub add-neg : (a : Carrier) → a + neg a ≡ zero
  add-neg = R.add-neg

  pub mul_assoc : (a b c : Carrier) → a * b * c ≡ a * (b * c)
  mul_assoc = R.mul_assoc

  pub mul_comm : (a b : Carrier) → a * b ≡ b * a
  mul_comm = R.mul_comm

  pub mul-one : (a : Carrier) → a * one ≡ a
  mul-one = R.mul-one

  pub mul-add : (a b c : Carrier) → a * (b + c) ≡ a * b + a * c
  mul-add = R.mul-add

  pub zero-add : (a : Carrier) → zero + a ≡ a
  zero-add a = add_comm zero a ∙ add-zero a

  pub add_left_comm : (a b c : Carrier) → a + (b + c) ≡ b + (a + c)
  add_left_comm a b c = sym (add_assoc a b c) ∙ ap (λ x. x + c) (add_comm a b) ∙ add_assoc b a c

  pub mul_left_comm : (a b c : Carrier) → a * (b * c) ≡ b * (a * c)
  mul_left_comm a b c = sym (mul_assoc a b c) ∙ ap (λ x. x * c) (mul_comm a b) ∙ mul_assoc b a c

  pub add-mul : (a b c : Carrier) → (a + b) * c ≡ a * c + b * c
  add-mul a b c = simp (mul_comm, mul-add)

  pub one-mul : (a : Carrier) → one * a ≡ a
  one-mul a = mul_comm one a ∙ mul-one a

  pub add_left_cancel : (a b c : Carrier) → a + b ≡ a + c → b ≡ c
  add_left_cancel a b c h = sym (go b) ∙ ap (λ x. neg a + x) h ∙ go c
    where
      go : (x : Carrier) → neg a + (a + x) ≡ x
      go x = sym (add_assoc (neg a) a x) ∙ ap (λ y. y + x) (add_comm (neg a) a ∙ add-neg a) ∙ zero-add x

  pub mul-zero : (a : Carrier) → a * zero ≡ zero
  mul-zero a =
      add_left_cancel (a * zero) (a * zero) zero
      (sym (mul-add a zero zero) ∙ ap (λ x. a * x) (add-zero zero) ∙ sym (add-zero (a * zero)))

  pub zero-mul : (a : Carrier) → zero * a ≡ zero
  zero-mul a = mul_comm zero a ∙ mul-zero a

  pub neg_unique : (a b : Carrier) → a + b ≡ zero → b ≡ neg a
  neg_unique a b h = add_left_cancel a b (neg a) (h ∙ sym (add-neg a))

  pub neg-add_self : (a : Carrier) → neg a + a ≡ zero
  neg-add_self a = add_comm (neg a) a ∙ add-neg a

  pub neg-neg : (a : Carrier) → neg (neg a) ≡ a
  neg-neg a = sym (neg_unique (neg a) a (neg-add_self a))

  pub neg-zero : neg zero ≡ zero
  neg-zero = sym (neg_unique zero zero (add-zero zero))

  pub neg-add : (a b : Carrier) → neg (a + b) ≡ neg a + neg b
  neg-add a b =
      sym
      (neg_unique (a + b) (neg a + neg b)
      (add_assoc a b (neg a + neg b)
      ∙ ap (λ x. a + x) (add_left_comm b (neg a) (neg b) ∙ ap (λ x. neg a + x) (add-neg b) ∙ add-zero (neg a)) ∙ add-neg a))

  pub mul-neg : (a b : Carrier) → a * neg b ≡ neg (a * b)
  mul-neg a b = neg_unique (a * b) (a * neg b) (sym (mul-add a b (neg b)) ∙ ap (λ x. a * x) (add-neg b) ∙ mul-zero a)

  pub neg-mul : (a b : Carrier) → neg a * b ≡ neg (a * b)
  neg-mul a b = mul_comm (neg a) b ∙ mul-neg b a ∙ ap neg (mul_comm b a)

  pub add_neg_cancel : (a b : Carrier) → a + (neg a + b) ≡ b
  add_neg_cancel a b = sym (add_assoc a (neg a) b) ∙ ap (λ x. x + b) (add-neg a) ∙ zero-add b

  pub neg_add_cancel : (a b : Carrier) → neg a + (a + b) ≡ b
  neg_add_cancel a b = sym (add_assoc (neg a) a b) ∙ ap (λ x. x + b) (neg-add_self a) ∙ zero-add b

  pub eq_of_sub : (a b : Carrier) → a + neg b ≡ zero → a ≡ b
  eq_of_sub a b h = sym (neg-neg a) ∙ sym (ap neg (neg_unique a (neg b) h)) ∙ neg-neg b

  pub sub_of_eq : (a b : Carrier) → a ≡ b → a + neg b ≡ zero
  sub_of_eq a b h = ap (λ x. x + neg b) h ∙ add-neg b

  pub add_right_cancel : (a b c : Carrier) → a + c ≡ b + c → a ≡ b
  add_right_cancel a b c h = add_left_cancel c a b (add_comm c a ∙ h ∙ add_comm b c)

  pub move : (a b c : Carrier) → a + b ≡ c → a ≡ c + neg b
  move a b c h = add_right_cancel a (c + neg b) b (h ∙ sym (add_assoc c (neg b) b ∙ ap (λ x. c + x) (neg-add_self b) ∙ add-zero c))

  -- a or -a, one to three terms, then the other: with more behind it (m, n) or at the end (e, f)
  pub cancel2m : (a b1 c : Carrier) → a + (b1 + (neg a + c)) ≡ b1 + c
  cancel2m a b1 c = add_left_comm (a) b1 (neg a + c) ∙ ap (λ z. b1 + z) (add_neg_cancel a c)

  pub cancel2e : (a b1 : Carrier) → a + (b1 + neg a) ≡ b1
  cancel2e a b1 = add_left_comm (a) b1 (neg a) ∙ ap (λ z. b1 + z) (add-neg a) ∙ add-zero b1

  pub cancel3m : (a b1 b2 c : Carrier) → a + (b1 + (b2 + (neg a + c))) ≡ b1 + (b2 + c)
  cancel3m a b1 b2 c = add_left_comm (a) b1 (b2 + (neg a + c)) ∙ ap (λ z. b1 + z) (cancel2m a b2 c)

  pub cancel3e : (a b1 b2 : Carrier) → a + (b1 + (b2 + neg a)) ≡ b1 + b2
  cancel3e a b1 b2 = add_left_comm (a) b1 (b2 + neg a) ∙ ap (λ z. b1 + z) (cancel2e a b2)

  pub cancel4m : (a b1 b2 b3 c : Carrier) → a + (b1 + (b2 + (b3 + (neg a + c)))) ≡ b1 + (b2 + (b3 + c))
  cancel4m a b1 b2 b3 c = add_left_comm (a) b1 (b2 + (b3 + (neg a + c))) ∙ ap (λ z. b1 + z) (cancel3m a b2 b3 c)

  pub cancel4e : (a b1 b2 b3 : Carrier) → a + (b1 + (b2 + (b3 + neg a))) ≡ b1 + (b2 + b3)
  cancel4e a b1 b2 b3 = add_left_comm (a) b1 (b2 + (b3 + neg a)) ∙ ap (λ z. b1 + z) (cancel3e a b2 b3)

  pub cancel2n : (a b1 c : Carrier) → neg a + (b1 + (a + c)) ≡ b1 + c
  cancel2n a b1 c = add_left_comm (neg a) b1 (a + c) ∙ ap (λ z. b1 + z) (neg_add_cancel a c)

  pub cancel2f : (a b1 : Carrier) → neg a + (b1 + a) ≡ b1
  cancel2f a b1 = add_left_comm (neg a) b1 (a) ∙ ap (λ z. b1 + z) (neg-add_self a) ∙ add-zero b1

  pub cancel3n : (a b1 b2 c : Carrier) → neg a + (b1 + (b2 + (a + c))) ≡ b1 + (b2 + c)
  cancel3n a b1 b2 c = add_left_comm (neg a) b1 (b2 + (a + c)) ∙ ap (λ z. b1 + z) (cancel2n a b2 c)

  pub cancel3f : (a b1 b2 : Carrier) → neg a + (b1 + (b2 + a)) ≡ b1 + b2
  cancel3f a b1 b2 = add_left_comm (neg a) b1 (b2 + a) ∙ ap (λ z. b1 + z) (cancel2f a b2)

  pub cancel4n : (a b1 b2 b3 c : Carrier) → neg a + (b1 + (b2 + (b3 + (a + c)))) ≡ b1 + (b2 + (b3 + c))
  cancel4n a b1 b2 b3 c = add_left_comm (neg a) b1 (b2 + (b3 + (a + c))) ∙ ap (λ z. b1 + z) (cancel3n a b2 b3 c)

  pub cancel4f : (a b1 b2 b3 : Carrier) → neg a + (b1 + (b2 + (b3 + a))) ≡ b1 + (b2 + b3)
  cancel4f a b1 b2 b3 = add_left_comm (neg a) b1 (b2 + (b3 + a)) ∙ ap (λ z. b1 + z) (cancel3f a b2 b3)

  pub ruleset CANCEL = (
    cancel2m,
    cancel2e,
    cancel3m,
    cancel3e,
    cancel4m,
    cancel4e,
    cancel2n,
    cancel2f,
    cancel3n,
    cancel3f,
    cancel4n,
    cancel4f,
  )

  pub ruleset Ac = (add_assoc, add_comm, add_left_comm, mul_assoc, mul_comm, mul_left_comm)

  pub ruleset RING = (
    Ac,
    mul-add,
    add-mul,
    mul-one,
    one-mul,
    mul-zero,
    zero-mul,
    add-zero,
    zero-add,
    neg-neg,
    neg-zero,
    neg-add,
    mul-neg,
    neg-mul,
    add-neg,
    neg-add_self,
    add_neg_cancel,
    neg_add_cancel,
    CANCEL,
  )
