-- From facts in pairs to a goal with named clauses, which a function's `ensures` are: `answer_and_writes` takes a pair to the clauses `answer`
-- and `writes`, and so on. Of three facts the last two are a pair of their own.
-- Assumes nothing.

pub answer_and_writes : {A B : Type 0} → A × B → record { answer : A; writes : B }
answer_and_writes (a, b) = record { answer = a; writes = b }

pub number_and_values : {A B : Type 0} → A × B → record { number : A; values : B }
number_and_values (a, b) = record { number = a; values = b }

pub quotient_and_remainder : {A B : Type 0} → A × B → record { quotient : A; remainder : B }
quotient_and_remainder (a, b) = record { quotient = a; remainder = b }

pub number_and_writes : {A B : Type 0} → A × B → record { number : A; writes : B }
number_and_writes (a, b) = record { number = a; writes = b }

pub left_and_quotient : {A B : Type 0} → A × B → record { left : A; quotient : B }
left_and_quotient (a, b) = record { left = a; quotient = b }

pub number_and_writes_and_values : {A B C : Type 0} → A × (B × C) → record { number : A; writes : B; values : C }
number_and_writes_and_values (a, (b, c)) = record { number = a; writes = b; values = c }

pub value_and_out_after : {A B : Type 0} → A × B → record { value : A; out_after : B }
value_and_out_after (a, b) = record { value = a; out_after = b }

pub value_and_q_after_and_r_after : {A B C : Type 0} → A × (B × C) → record { value : A; q_after : B; r_after : C }
value_and_q_after_and_r_after (a, (b, c)) = record { value = a; q_after = b; r_after = c }

pub value_and_h_after : {A B : Type 0} → A × B → record { value : A; h_after : B }
value_and_h_after (a, b) = record { value = a; h_after = b }

pub value_and_h_after_and_answer_after : {A B C : Type 0} → A × (B × C) → record { value : A; h_after : B; answer_after : C }
value_and_h_after_and_answer_after (a, (b, c)) = record { value = a; h_after = b; answer_after = c }

pub answer_and_writes_and_greatest : {A B C : Type 0} → A × (B × C) → record { answer : A; writes : B; greatest : C }
answer_and_writes_and_greatest (a, (b, c)) = record { answer = a; writes = b; greatest = c }

pub answer_and_quotient_and_remainder : {A B C : Type 0} → A × (B × C) → record { answer : A; quotient : B; remainder : C }
answer_and_quotient_and_remainder (a, (b, c)) = record { answer = a; quotient = b; remainder = c }

pub number_and_quotient_and_remainder : {A B C : Type 0} → A × (B × C) → record { number : A; quotient : B; remainder : C }
number_and_quotient_and_remainder (a, (b, c)) = record { number = a; quotient = b; remainder = c }

pub answer_and_read : {A B : Type 0} → A × B → record { answer : A; read : B }
answer_and_read (a, b) = record { answer = a; read = b }

pub answer_and_inverts : {A B : Type 0} → A × B → record { answer : A; inverts : B }
answer_and_inverts (a, b) = record { answer = a; inverts = b }

pub a_after_and_b_after : {A B : Type 0} → A × B → record { a_after : A; b_after : B }
a_after_and_b_after (a, b) = record { a_after = a; b_after = b }

pub answer_and_demand1 : {A B : Type 0} → A × B → record { answer : A; demand1 : B }
answer_and_demand1 (a, b) = record { answer = a; demand1 = b }
