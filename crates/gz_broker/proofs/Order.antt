-- Refusals in their order, and the further answers of an append, worked out by hand and computed.
use Rattle.std.specs.Prelude.{◌≡◌, ℕ, ◌-◌, ◌^◌, List, [], ◌∷◌, length, nat_lt, true, Some, None, Err, codes, refl}
use Rattle.gz_label.specs.declared.entry.Entry.{Entry}
use Rattle.gz_label.specs.declared.name.LabelError.TheVariants.{BadName}
use Rattle.gz_label.specs.declared.selector.Term.{Term}
use Rattle.gz_label.specs.declared.selector.Term.TheVariants.{Has}
use Rattle.gz_spec.specs.declared.framing.Framing.TheVariants.{Lines}
use Rattle.gz_wire.specs.declared.msg.Send.{Send}
use Rattle.gz_wire.specs.declared.msg.Msg.TheVariants.{AppendDone, Head, Held, Promise, Promised}
use Rattle.gz_replica.specs.declared.part.Part.TheVariants.{Closed}
use Rattle.gz_replica.specs.Member.{send}
use Rattle.gz_broker.specs.Brokers.{Row, Broker, Outcome, row_of}
use Rattle.gz_broker.specs.Taking.{then_do}
use Rattle.gz_broker.specs.Judging.{max_content}
use Rattle.gz_broker.specs.Appending.{Asked, refused_as, refuses_route, refusal_of, refusal_by, request_of, judges, judges_by}
use Rattle.gz_broker.specs.Step.{step, sends_of}
use Rattle.gz_broker.proofs.Rows.{j, b1, b2, b3, k, entry, spec, typed, route, open_part, spool, row, broker, asked, in_turn, from}

-- ---- where two reasons hold, the first is told

-- an append in the route of epoch 3
abbrev pub of_another_route : Asked
of_another_route = record (asked []) { epoch = Some 3 }

no_journal_first : refusal_of b1 Closed None None of_another_route ≡ Some (refused_as 9 1 0)
no_journal_first = refl

not_primary_second : refusal_of b1 Closed (Some (spec [])) (route (b2 ∷ [])) of_another_route ≡ Some (refuses_route 9 (b2 ∷ []))
not_primary_second = refl

wrong_route_third : refusal_of b1 Closed (Some (spec [])) (route (b1 ∷ [])) of_another_route ≡ Some (refused_as 9 3 4)
wrong_route_third = refl

not_open_fourth : (content : List ℕ) → nat_lt max_content (length content) ≡ true → refusal_of b1 Closed (Some (spec [])) (route (b1 ∷ [])) (asked content) ≡ Some (refused_as 9 4 4)
not_open_fourth content e = refl

too_large_fifth : (content : List ℕ) → nat_lt max_content (length content) ≡ true → refusal_by Lines (asked content) ≡ Some (refused_as 9 5 1048576)
too_large_fifth content e = rw e refl

not_framed_sixth : refusal_of b1 open_part (Some (spec (typed (codes "application/x-gazette-recoverylog")))) (route (b1 ∷ [])) (asked (codes "no")) ≡ Some (refused_as 9 6 0)
not_framed_sixth = refl

not_allowed_seventh : refusal_of b1 open_part (Some (spec (typed (codes "application/x-gazette-recoverylog")))) (route (b1 ∷ [])) (record (asked []) { offset = Some 2 }) ≡ Some (refused_as 9 7 0)
not_allowed_seventh = refl

-- ---- the further answers at the spool's end

abbrev pub judged_by : Row → Asked → List Term → List Send
judged_by r a terms = sends_of (judges (broker r) j r a (request_of a terms))

-- a selector that can't be read
no_selector : sends_of (judges_by (broker row) j row (asked (codes "abc")) (Err (BadName 0))) ≡ send k (AppendDone 9 j 7 0 0 0 [] []) ∷ []
no_selector = refl

-- another offset, though the registers don't match either
offset_before_registers : judged_by row (record (asked (codes "abc")) { offset = Some 2 }) (Has (codes "a") ∷ []) ≡ send k (AppendDone 9 j 8 0 0 3 [] []) ∷ []
offset_before_registers = refl

-- the registers are told
abbrev pub labelled : Row
labelled = record row { member = record row.member { spool = record spool { entries = record (entry 7) { registers = record { name = codes "b"; value = [] } ∷ [] } ∷ [] } } }

registers_differ : judged_by labelled (asked (codes "abc")) (Has (codes "a") ∷ []) ≡ send k (AppendDone 9 j 9 0 0 0 (record { name = codes "b"; value = [] } ∷ []) []) ∷ []
registers_differ = refl

-- the journal would end above 2^62
abbrev pub full : Row
full = record row { member = record row.member { spool = record { begin = 2 ^ 62 - 1; base = []; entries = []; head = 2 ^ 62 - 1 } } }

no_room : judged_by full (asked (9 ∷ 9 ∷ [])) [] ≡ send k (AppendDone 9 j 5 0 0 (2 ^ 62) [] []) ∷ []
no_room = refl

-- ---- answers leave in order

abbrev pub put : ℕ → List ℕ → Entry
put req bytes = record { attempt = record { node = k; req = req }; bytes = bytes; registers = [] }

-- an append that nothing refused is judged
abbrev pub takes : Asked → Broker → Outcome
takes a b = let r : Row = row_of j b.rows in judges b j r a (request_of a [])

-- two appends, and one that expects another offset: each waits for the end that it was judged for
abbrev pub three_wait : Broker
three_wait =
    (then_do (takes (asked (8 ∷ 8 ∷ [])) (broker row))
    (λ b. then_do (takes (record (asked (9 ∷ [])) { req = 10 }) b) (takes (record (asked (9 ∷ [])) { req = 11; offset = Some 0 })))).broker

leave_in_order : sends_of (in_turn (from b2 (Held j 4 6) ∷ from b3 (Held j 4 5) ∷ from b3 (Held j 4 6) ∷ []) three_wait) ≡
    send k (AppendDone 9 j 0 3 5 0 [] [])
    ∷ send b2 (Head j 4 5 0)
    ∷ send b3 (Head j 4 5 0)
    ∷ send k (AppendDone 10 j 0 5 6 0 [] [])
    ∷ send k (AppendDone 11 j 8 0 0 6 [] [])
    ∷ send b2 (Head j 4 6 0)
    ∷ send b3 (Head j 4 6 0)
    ∷ []
leave_in_order = refl

-- an end of another epoch frees none
of_another_epoch : sends_of (in_turn (from b2 (Held j 4 6) ∷ from b3 (Held j 3 6) ∷ []) three_wait) ≡ []
of_another_epoch = refl

-- all go out as closed, in order, before the promise
all_close : sends_of (step three_wait (from b2 (Promise j 6))) ≡
    send k (AppendDone 9 j 10 0 0 6 [] [])
    ∷ send k (AppendDone 10 j 10 0 0 6 [] [])
    ∷ send k (AppendDone 11 j 10 0 0 6 [] [])
    ∷ send b2 (Promised j 6 4 (record spool { entries = entry 7 ∷ put 9 (8 ∷ 8 ∷ []) ∷ put 10 (9 ∷ []) ∷ [] }))
    ∷ []
all_close = refl
