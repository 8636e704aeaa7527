-- Tables of messages: each message is that of its fields, and each row has the tag of its kind.
use Rattle.std.proofs.Common.{◌≡◌, ℕ, ◌==◌, Bool, true, false, not, cond, inl, inr, subst, List, [], ◌∷◌, Option, Some, None, refl, ap, sym, ◌∙◌}
use Rattle.std.specs.List.{AllByRecursion}
use Rattle.std.proofs.lemmas.Bool.{eqb-true, eq-eqb}
use Rattle.gz_label.proofs.Sets.{both_left, both_right}
use Rattle.gz_wire.specs.declared.msg.Msg.{Msg}
use Rattle.gz_wire.specs.declared.msg.Msg.TheVariants as msgs
use Rattle.gz_wire.specs.declared.kind.Kind.{Kind}
use Rattle.gz_wire.specs.declared.kind.Kind.TheVariants.{KsTxn, KsTxnOk, KsTxnNo, KsSince, KsSinceDone, KsChange, KsGrant, KsGranted, Promise, Promised, Adopt, Adopted, Refuse, Replicate, Held, Head, Append, AppendDone, Read, ReadDone, StorePut, StoreDone, StoreGet, StoreGot, StoreList, StoreNames}
use Rattle.gz_spelling.specs.declared.table.Row.{Row}
use Rattle.gz_wire.specs.Kinds.{kind_of}
use Rattle.gz_spelling.specs.Messages.{tag_of, kinds_of, fields_of, msg_of, payload}
use Rattle.gz_codec.specs.Spelling.{Fields, fields, FitEach}
use Rattle.gz_spelling.specs.Table.{kind_tagged, every_row, lacks, distinct, has_tags, HasKind}

-- a message is that of its fields
pub made : (m : Msg) → msg_of (kind_of m) (fields_of m) ≡ m
made (msgs.KsTxn req compares writes) = refl
made (msgs.KsTxnOk req revision) = refl
made (msgs.KsTxnNo req status key revision) = refl
made (msgs.KsSince req after) = refl
made (msgs.KsSinceDone req head changes) = refl
made (msgs.KsChange revision writes) = refl
made (msgs.KsGrant req key value) = refl
made (msgs.KsGranted req lease) = refl
made (msgs.Promise journal epoch) = refl
made (msgs.Promised journal epoch adopted image) = refl
made (msgs.Adopt journal epoch image) = refl
made (msgs.Adopted journal epoch end) = refl
made (msgs.Refuse journal epoch code value) = refl
made (msgs.Replicate journal epoch offset entry head) = refl
made (msgs.Held journal epoch end) = refl
made (msgs.Head journal epoch head begin) = refl
made (msgs.Append req journal epoch offset selector take add content) = refl
made (msgs.AppendDone req journal status begin end value labels route) = refl
made (msgs.Read req journal offset) = refl
made (msgs.ReadDone req journal status offset content head route) = refl
made (msgs.StorePut req journal begin end content) = refl
made (msgs.StoreDone req journal begin end) = refl
made (msgs.StoreGet req journal offset) = refl
made (msgs.StoreGot req journal status offset content) = refl
made (msgs.StoreList req journal) = refl
made (msgs.StoreNames req journal names) = refl

-- the fields of a message that was made of fields are these
pub record Remade (k : Kind) (vs : Fields (kinds_of k)) : Type 0 where
  pub tag : tag_of (kind_of (msg_of k vs)) ≡ tag_of k
  pub spelled : payload (msg_of k vs) ≡ fields (kinds_of k) vs
  pub fits : FitEach (kinds_of (kind_of (msg_of k vs))) (fields_of (msg_of k vs))

pub remade : (k : Kind) (vs : Fields (kinds_of k)) → FitEach (kinds_of k) vs → Remade k vs
unfolding payload
remade KsTxn vs fit = record { tag = refl; spelled = refl; fits = fit }
remade KsTxnOk vs fit = record { tag = refl; spelled = refl; fits = fit }
remade KsTxnNo vs fit = record { tag = refl; spelled = refl; fits = fit }
remade KsSince vs fit = record { tag = refl; spelled = refl; fits = fit }
remade KsSinceDone vs fit = record { tag = refl; spelled = refl; fits = fit }
remade KsChange vs fit = record { tag = refl; spelled = refl; fits = fit }
remade KsGrant vs fit = record { tag = refl; spelled = refl; fits = fit }
remade KsGranted vs fit = record { tag = refl; spelled = refl; fits = fit }
remade Promise vs fit = record { tag = refl; spelled = refl; fits = fit }
remade Promised vs fit = record { tag = refl; spelled = refl; fits = fit }
remade Adopt vs fit = record { tag = refl; spelled = refl; fits = fit }
remade Adopted vs fit = record { tag = refl; spelled = refl; fits = fit }
remade Refuse vs fit = record { tag = refl; spelled = refl; fits = fit }
remade Replicate vs fit = record { tag = refl; spelled = refl; fits = fit }
remade Held vs fit = record { tag = refl; spelled = refl; fits = fit }
remade Head vs fit = record { tag = refl; spelled = refl; fits = fit }
remade Append vs fit = record { tag = refl; spelled = refl; fits = fit }
remade AppendDone vs fit = record { tag = refl; spelled = refl; fits = fit }
remade Read vs fit = record { tag = refl; spelled = refl; fits = fit }
remade ReadDone vs fit = record { tag = refl; spelled = refl; fits = fit }
remade StorePut vs fit = record { tag = refl; spelled = refl; fits = fit }
remade StoreDone vs fit = record { tag = refl; spelled = refl; fits = fit }
remade StoreGet vs fit = record { tag = refl; spelled = refl; fits = fit }
remade StoreGot vs fit = record { tag = refl; spelled = refl; fits = fit }
remade StoreList vs fit = record { tag = refl; spelled = refl; fits = fit }
remade StoreNames vs fit = record { tag = refl; spelled = refl; fits = fit }

-- ---- the table of all messages

-- each kind has a row
pub have_kinds : (k : Kind) → HasKind k every_row
unfolding every_row
have_kinds KsTxn = inl refl
have_kinds KsTxnOk = inr (inl refl)
have_kinds KsTxnNo = inr (inr (inl refl))
have_kinds KsSince = inr (inr (inr (inl refl)))
have_kinds KsSinceDone = inr (inr (inr (inr (inl refl))))
have_kinds KsChange = inr (inr (inr (inr (inr (inl refl)))))
have_kinds KsGrant = inr (inr (inr (inr (inr (inr (inl refl))))))
have_kinds KsGranted = inr (inr (inr (inr (inr (inr (inr (inl refl)))))))
have_kinds Promise = inr (inr (inr (inr (inr (inr (inr (inr (inl refl))))))))
have_kinds Promised = inr (inr (inr (inr (inr (inr (inr (inr (inr (inl refl)))))))))
have_kinds Adopt = inr (inr (inr (inr (inr (inr (inr (inr (inr (inr (inl refl))))))))))
have_kinds Adopted = inr (inr (inr (inr (inr (inr (inr (inr (inr (inr (inr (inl refl)))))))))))
have_kinds Refuse = inr (inr (inr (inr (inr (inr (inr (inr (inr (inr (inr (inr (inl refl))))))))))))
have_kinds Replicate = inr (inr (inr (inr (inr (inr (inr (inr (inr (inr (inr (inr (inr (inl refl)))))))))))))
have_kinds Held = inr (inr (inr (inr (inr (inr (inr (inr (inr (inr (inr (inr (inr (inr (inl refl))))))))))))))
have_kinds Head = inr (inr (inr (inr (inr (inr (inr (inr (inr (inr (inr (inr (inr (inr (inr (inl refl)))))))))))))))
have_kinds Append = inr (inr (inr (inr (inr (inr (inr (inr (inr (inr (inr (inr (inr (inr (inr (inr (inl refl))))))))))))))))
have_kinds AppendDone = inr (inr (inr (inr (inr (inr (inr (inr (inr (inr (inr (inr (inr (inr (inr (inr (inr (inl refl)))))))))))))))))
have_kinds Read = inr (inr (inr (inr (inr (inr (inr (inr (inr (inr (inr (inr (inr (inr (inr (inr (inr (inr (inl refl))))))))))))))))))
have_kinds ReadDone = inr (inr (inr (inr (inr (inr (inr (inr (inr (inr (inr (inr (inr (inr (inr (inr (inr (inr (inr (inl refl)))))))))))))))))))
have_kinds StorePut = inr (inr (inr (inr (inr (inr (inr (inr (inr (inr (inr (inr (inr (inr (inr (inr (inr (inr (inr (inr (inl refl))))))))))))))))))))
have_kinds StoreDone = inr (inr (inr (inr (inr (inr (inr (inr (inr (inr (inr (inr (inr (inr (inr (inr (inr (inr (inr (inr (inr (inl refl)))))))))))))))))))))
have_kinds StoreGet = inr (inr (inr (inr (inr (inr (inr (inr (inr (inr (inr (inr (inr (inr (inr (inr (inr (inr (inr (inr (inr (inr (inl refl))))))))))))))))))))))
have_kinds StoreGot = inr (inr (inr (inr (inr (inr (inr (inr (inr (inr (inr (inr (inr (inr (inr (inr (inr (inr (inr (inr (inr (inr (inr (inl refl)))))))))))))))))))))))
have_kinds StoreList = inr (inr (inr (inr (inr (inr (inr (inr (inr (inr (inr (inr (inr (inr (inr (inr (inr (inr (inr (inr (inr (inr (inr (inr (inl refl))))))))))))))))))))))))
have_kinds StoreNames = inr (inr (inr (inr (inr (inr (inr (inr (inr (inr (inr (inr (inr (inr (inr (inr (inr (inr (inr (inr (inr (inr (inr (inr (inr (inl refl)))))))))))))))))))))))))

-- ---- any table: a kind that is found by a tag has the tag

abbrev pub HasItsTag : Row → Type 0
HasItsTag r = r.tag ≡ tag_of r.kind

pub own_tags : (rows : List Row) → has_tags rows ≡ true → AllByRecursion HasItsTag rows
own_tags [] all = tt
own_tags (r ∷ rows) all =
    (eqb-true r.tag (tag_of r.kind) (both_left (r.tag == tag_of r.kind) (has_tags rows) all), own_tags rows (both_right (r.tag == tag_of r.kind) (has_tags rows) all))

some_is : {A : Type 0} (x y : A) → let a : Option A = Some x in a ≡ Some y → x ≡ y
some_is x y e = cc

found_here : (b : Bool) (tag : ℕ) (k : Kind) (r : Row) (rest : Option Kind) → (r.tag == tag) ≡ b → HasItsTag r → (rest ≡ Some k → tag ≡ tag_of k) → cond b (Some r.kind) rest ≡ Some k → tag ≡ tag_of k
found_here true tag k r rest is has later e = sym (eqb-true r.tag tag is) ∙ has ∙ ap tag_of (some_is r.kind k e)
found_here false tag k r rest is has later e = later e

pub found_in : (tag : ℕ) (k : Kind) (rows : List Row) → AllByRecursion HasItsTag rows → kind_tagged tag rows ≡ Some k → tag ≡ tag_of k
unfolding kind_tagged
found_in tag k [] have e = absurd cc
found_in tag k (r ∷ rows) have e = found_here (r.tag == tag) tag k r (kind_tagged tag rows) refl have.0 (found_in tag k rows have.1) e

-- ---- any table: the row of a kind is found by its tag

abbrev no_kind : Option Kind
no_kind = None

none_is_some : (k : Kind) → no_kind ≡ Some k → ⊥
none_is_some k e = absurd cc

is_false : (b : Bool) → not b ≡ true → b ≡ false
is_false true h = absurd cc
is_false false h = refl

lacking : (tag : ℕ) (rows : List Row) → lacks tag rows ≡ true → kind_tagged tag rows ≡ no_kind
unfolding kind_tagged
lacking tag [] all = refl
lacking tag (r ∷ rows) all =
    let other : (r.tag == tag) ≡ false = is_false (r.tag == tag) (both_left (not (r.tag == tag)) (lacks tag rows) all) in
    rw other (lacking tag rows (both_right (not (r.tag == tag)) (lacks tag rows) all))

found_behind : (b : Bool) (k : Kind) (r : Row) (rows : List Row) → (r.tag == tag_of k) ≡ b → lacks r.tag rows ≡ true → kind_tagged (tag_of k) rows ≡ Some k → cond b (Some r.kind) (kind_tagged (tag_of k) rows) ≡ Some k
found_behind true k r rows is lack later =
    let none : kind_tagged (tag_of k) rows ≡ no_kind = subst (λ (t : ℕ). kind_tagged t rows ≡ no_kind) (eqb-true r.tag (tag_of k) is) (lacking r.tag rows lack) in
    absurd (none_is_some k (sym none ∙ later))
found_behind false k r rows is lack later = later

abbrev the_kind : Kind → Option Kind
the_kind k = Some k

pub tagged : (k : Kind) (rows : List Row) → distinct rows ≡ true → AllByRecursion HasItsTag rows → HasKind k rows → kind_tagged (tag_of k) rows ≡ Some k
unfolding kind_tagged
tagged k [] apart have there = absurd there
tagged k (r ∷ rows) apart have (inl is) =
    let here : (r.tag == tag_of k) ≡ true = eq-eqb r.tag (tag_of k) (have.0 ∙ ap tag_of is) in
    rw here (ap the_kind is)
tagged k (r ∷ rows) apart have (inr there) =
    found_behind (r.tag == tag_of k) k r rows refl (both_left (lacks r.tag rows) (distinct rows) apart) (tagged k rows (both_right (lacks r.tag rows) (distinct rows) apart) have.1 there)
