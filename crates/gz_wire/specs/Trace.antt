-- What a trace prints of a message: a subject and a number.
use Rattle.std.specs.Prelude.{ℕ, List, [], ◌∷◌, Option, Some, None, max, codes}
use Rattle.gz_label.specs.declared.keys.KeyWrite.{KeyWrite}
use Rattle.gz_fragment.specs.Names.{FragmentName, name_in}
use Rattle.gz_wire.specs.declared.msg.Msg.{Msg}
use Rattle.gz_wire.specs.declared.msg.Msg.TheVariants.{KsTxn, KsTxnOk, KsTxnNo, KsSince, KsSinceDone, KsChange, KsGrant, KsGranted, Promise, Promised, Adopt, Adopted, Refuse, Replicate, Held, Head, Append, AppendDone, Read, ReadDone, StorePut, StoreDone, StoreGet, StoreGot, StoreList, StoreNames}

-- a message that speaks of no journal and no key
abbrev pub no_subject : List ℕ
no_subject = codes "-"

-- the first written key
abbrev pub first_key : List KeyWrite → List ℕ
first_key [] = no_subject
first_key (w ∷ ws) = w.key

-- the journal that the message speaks of, or the key
abbrev pub subject_of : Msg → List ℕ
subject_of (KsTxn req compares writes) = first_key writes
subject_of (KsTxnOk req revision) = no_subject
subject_of (KsTxnNo req status key revision) = key
subject_of (KsSince req after) = no_subject
subject_of (KsSinceDone req head changes) = no_subject
subject_of (KsChange revision writes) = first_key writes
subject_of (KsGrant req key value) = key
subject_of (KsGranted req lease) = no_subject
subject_of (Promise journal epoch) = journal
subject_of (Promised journal epoch adopted image) = journal
subject_of (Adopt journal epoch image) = journal
subject_of (Adopted journal epoch end) = journal
subject_of (Refuse journal epoch code value) = journal
subject_of (Replicate journal epoch offset entry head) = journal
subject_of (Held journal epoch end) = journal
subject_of (Head journal epoch head begin) = journal
subject_of (Append req journal epoch offset selector take add content) = journal
subject_of (AppendDone req journal status begin end value labels route) = journal
subject_of (Read req journal offset) = journal
subject_of (ReadDone req journal status offset content head route) = journal
subject_of (StorePut req journal begin end content) = journal
subject_of (StoreDone req journal begin end) = journal
subject_of (StoreGet req journal offset) = journal
subject_of (StoreGot req journal status offset content) = journal
subject_of (StoreList req journal) = journal
subject_of (StoreNames req journal names) = journal

-- the end of a fragment's name, and 0 for a text that is none
abbrev pub end_of : Option FragmentName → ℕ
end_of None = 0
end_of (Some name) = name.end

-- the greatest end that one of the names says, or 0
unfoldable pub greatest_end : List (List ℕ) → ℕ
greatest_end [] = 0
greatest_end (name ∷ names) = max (end_of (name_in name)) (greatest_end names)

-- the number that tells most of the message
abbrev pub number_of : Msg → ℕ
number_of (KsTxn req compares writes) = req
number_of (KsTxnOk req revision) = revision
number_of (KsTxnNo req status key revision) = revision
number_of (KsSince req after) = after
number_of (KsSinceDone req head changes) = head
number_of (KsChange revision writes) = revision
number_of (KsGrant req key value) = req
number_of (KsGranted req lease) = lease
number_of (Promise journal epoch) = epoch
number_of (Promised journal epoch adopted image) = adopted
number_of (Adopt journal epoch image) = epoch
number_of (Adopted journal epoch end) = end
number_of (Refuse journal epoch code value) = code
number_of (Replicate journal epoch offset entry head) = offset
number_of (Held journal epoch end) = end
number_of (Head journal epoch head begin) = head
number_of (Append req journal epoch offset selector take add content) = req
number_of (AppendDone req journal status begin end value labels route) = end
number_of (Read req journal offset) = offset
number_of (ReadDone req journal status offset content head route) = offset
number_of (StorePut req journal begin end content) = end
number_of (StoreDone req journal begin end) = end
number_of (StoreGet req journal offset) = offset
number_of (StoreGot req journal status offset content) = offset
number_of (StoreList req journal) = req
number_of (StoreNames req journal names) = greatest_end names
