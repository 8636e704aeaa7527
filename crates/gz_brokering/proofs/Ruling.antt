-- One rule of one journal, and what follows from it.
use Rattle.std.proofs.Common.{◌≡◌, ℕ, ◌+◌, Bool, true, false, cond, List, [], ◌∷◌, ◌++◌, Option, None, refl, sym, ap, ◌∙◌}
use Rattle.gz_wire.specs.declared.msg.Send.{Send}
use Rattle.gz_replica.specs.declared.part.Part.{Part}
use Rattle.gz_replica.specs.declared.part.Part.TheVariants.{Closed, Opening, Adopting, Syncing, Open}
use Rattle.gz_replica.specs.Member.{Member, open_epoch_of}
use Rattle.gz_replica.specs.Member as member
use Rattle.gz_broker.specs.Brokers.{Row, Broker, Outcome, new_row, row_of, with_row, spec_of}
use Rattle.gz_broker.specs.Closing.{goes_on, closings_of, row_after, closings_after, answers_of, left_of, is_to_put, putting, store_put, finished, by_rule, ruled}
use Rattle.gz_brokering.specs.Rules.{stays, kept_with, closings_with, outcome_of}
use Rattle.gz_brokering.specs.declared.rule.Rule.{Rule}
use Rattle.gz_brokering.proofs.Found.{row_twice}

-- a part goes on where it is open at the same epoch
goes_on_epochs : (p q : Part) → goes_on p q ≡ stays (open_epoch_of p) (open_epoch_of q)
goes_on_epochs Closed q = refl
goes_on_epochs (Opening r req reports stored) q = refl
goes_on_epochs (Adopting r reached) q = refl
goes_on_epochs (Syncing r req) q = refl
goes_on_epochs (Open r held) Closed = refl
goes_on_epochs (Open r held) (Opening s req reports stored) = refl
goes_on_epochs (Open r held) (Adopting s reached) = refl
goes_on_epochs (Open r held) (Syncing s req) = refl
goes_on_epochs (Open r held) (Open s ends) = refl

rule_kept : (row : Row) (m : Member) → row_after row m ≡ kept_with (open_epoch_of row.member.part) (record row { member = m })
rule_kept row m = ap (λ (b : Bool). cond b (record row { member = m }) (record { member = m; queue = []; putting = None })) (goes_on_epochs row.member.part m.part)

rule_closes : (j : List ℕ) (row : Row) (m : Member) → closings_after j row m ≡ closings_with j (open_epoch_of row.member.part) (record row { member = m })
rule_closes j row m = ap (λ (b : Bool). cond b [] (closings_of j m.promised row.queue)) (goes_on_epochs row.member.part m.part)

-- what a rule comes to, said by the epoch at which the part was open before
pub applied : (b : Broker) (j : List ℕ) (row changed kept : Row) (out : member.Outcome) (head requests : ℕ) (before : Option ℕ) (closings sends : List Send) (o : Outcome)
    → before ≡ open_epoch_of row.member.part → head ≡ row.member.spool.head → changed ≡ record row { member = out.member }
    → closings ≡ closings_with j before changed → kept ≡ kept_with before changed → requests ≡ b.requests + out.numbered → sends ≡ out.sends
    → o ≡ finished b j head requests closings sends kept → o ≡ by_rule b j row out
applied b j row changed kept out head requests before closings sends o epoch at new closes stays_ numbers sent is =
    let ends : closings ≡ closings_after j row out.member = closes ∙ (λ i. closings_with j (epoch i) (new i)) ∙ sym (rule_closes j row out.member) in
    let left : kept ≡ row_after row out.member = stays_ ∙ (λ i. kept_with (epoch i) (new i)) ∙ sym (rule_kept row out.member) in
    is ∙ (λ i. finished b j (at i) (numbers i) (ends i) (sent i) (left i))

-- a row that was taken out before is put as if it were there
again : (b : Broker) (j : List ℕ) (head requests : ℕ) (closings sends : List Send) (row : Row)
    → finished (record b { rows = with_row j new_row b.rows }) j head requests closings sends row ≡ finished b j head requests closings sends row
again b j head requests closings sends row = λ i.
    cond (is_to_put (spec_of j b.mirror) row.member.part head row)
    (record { broker = record b { rows = row_twice j new_row (putting (requests + 1) (left_of row row.member.part)) b.rows i; requests = requests + 1 }; closings = closings; sends = (answers_of j row row.member.part ++ sends) ++ store_put j (requests + 1) row.member.spool ∷ [] })
    (record { broker = record b { rows = row_twice j new_row (left_of row row.member.part) b.rows i; requests = requests }; closings = closings; sends = answers_of j row row.member.part ++ sends })

pub rule_of_taken : (b taken : Broker) (j : List ℕ) (row : Row) (out : member.Outcome) → taken ≡ record b { rows = with_row j new_row b.rows } → by_rule taken j row out ≡ by_rule b j row out
rule_of_taken b taken j row out is =
    ap (λ (t : Broker). by_rule t j row out) is
    ∙ again b j row.member.spool.head (b.requests + out.numbered) (closings_after j row out.member) out.sends (row_after row out.member)

-- the rule of a journal whose row was taken out
pub ruled_by : (b taken : Broker) (j : List ℕ) (row : Row) (rule : Rule) (o : Outcome) → taken ≡ record b { rows = with_row j new_row b.rows } → row ≡ row_of j b.rows
    → o ≡ by_rule taken j row (outcome_of j (taken.requests + 1) row.member rule) → o ≡ ruled b j (λ req m. outcome_of j req m rule)
ruled_by b taken j row rule o same found is =
    is
    ∙ ap (λ (t : Broker). by_rule taken j row (outcome_of j (t.requests + 1) row.member rule)) same
    ∙ rule_of_taken b taken j row (outcome_of j (b.requests + 1) row.member rule) same
    ∙ ap (λ (r : Row). by_rule b j r (outcome_of j (b.requests + 1) r.member rule)) found

-- no put follows
pub settled : (b new : Broker) (j : List ℕ) (head requests : ℕ) (closings sends all : List Send) (row left : Row) (is : Bool)
    → is ≡ is_to_put (spec_of j b.mirror) row.member.part head row → is ≡ false → left ≡ left_of row row.member.part → all ≡ answers_of j row row.member.part ++ sends
    → new ≡ record b { rows = with_row j left b.rows; requests = requests }
    → (λ (o : Outcome). o ≡ finished b j head requests closings sends row) (record { broker = new; closings = closings; sends = all })
settled b new j head requests closings sends all row left is test none keeps sent after =
    let no : is_to_put (spec_of j b.mirror) row.member.part head row ≡ false = sym test ∙ none in
    let next : new ≡ record b { rows = with_row j (left_of row row.member.part) b.rows; requests = requests } =
    after ∙ ap (λ (r : Row). record b { rows = with_row j r b.rows; requests = requests }) keeps in
    let plain : Outcome = record { broker = record b { rows = with_row j (left_of row row.member.part) b.rows; requests = requests }; closings = closings; sends = answers_of j row row.member.part ++ sends } in
    let more : Outcome = record { broker = record b { rows = with_row j (putting (requests + 1) (left_of row row.member.part)) b.rows; requests = requests + 1 }; closings = closings; sends = (answers_of j row row.member.part ++ sends) ++ store_put j (requests + 1) row.member.spool ∷ [] } in
    (λ i. record { broker = next i; closings = closings; sends = sent i }) ∙ sym (ap (λ (t : Bool). cond t more plain) no)

-- a put follows
pub settled_put : (b new : Broker) (j : List ℕ) (head requests : ℕ) (closings sends all : List Send) (row left : Row) (is : Bool)
    → is ≡ is_to_put (spec_of j b.mirror) row.member.part head row → is ≡ true → left ≡ putting (requests + 1) (left_of row row.member.part)
    → all ≡ (answers_of j row row.member.part ++ sends) ++ store_put j (requests + 1) row.member.spool ∷ []
    → new ≡ record b { rows = with_row j left b.rows; requests = requests + 1 }
    → (λ (o : Outcome). o ≡ finished b j head requests closings sends row) (record { broker = new; closings = closings; sends = all })
settled_put b new j head requests closings sends all row left is test some keeps sent after =
    let yes_ : is_to_put (spec_of j b.mirror) row.member.part head row ≡ true = sym test ∙ some in
    let next : new ≡ record b { rows = with_row j (putting (requests + 1) (left_of row row.member.part)) b.rows; requests = requests + 1 } =
    after ∙ ap (λ (r : Row). record b { rows = with_row j r b.rows; requests = requests + 1 }) keeps in
    let plain : Outcome = record { broker = record b { rows = with_row j (left_of row row.member.part) b.rows; requests = requests }; closings = closings; sends = answers_of j row row.member.part ++ sends } in
    let more : Outcome = record { broker = record b { rows = with_row j (putting (requests + 1) (left_of row row.member.part)) b.rows; requests = requests + 1 }; closings = closings; sends = (answers_of j row row.member.part ++ sends) ++ store_put j (requests + 1) row.member.spool ∷ [] } in
    (λ i. record { broker = next i; closings = closings; sends = sent i }) ∙ sym (ap (λ (t : Bool). cond t more plain) yes_)
