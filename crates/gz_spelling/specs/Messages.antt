-- The table of messages: the tag and the fields of each kind, and the message that they make.
use Rattle.std.specs.Prelude.{ℕ, List, [], ◌∷◌, Result, Ok}
use Rattle.gz_wire.specs.declared.msg.Msg.{Msg}
use Rattle.gz_wire.specs.declared.msg.Msg.TheVariants as msgs
use Rattle.gz_wire.specs.declared.kind.Kind.{Kind}
use Rattle.gz_wire.specs.declared.kind.Kind.TheVariants.{KsTxn, KsTxnOk, KsTxnNo, KsSince, KsSinceDone, KsChange, KsGrant, KsGranted, Promise, Promised, Adopt, Adopted, Refuse, Replicate, Held, Head, Append, AppendDone, Read, ReadDone, StorePut, StoreDone, StoreGet, StoreGot, StoreList, StoreNames}
use Rattle.gz_codec.specs.declared.field.FieldKind.{FieldKind}
use Rattle.gz_codec.specs.declared.field.FieldKind.TheVariants as fields
use Rattle.gz_wire.specs.Kinds.{kind_of}
use Rattle.gz_codec.specs.Spelling.{Fields}
use Rattle.gz_codec.specs.Spelling as spell
use Rattle.gz_codec.specs.Reading.{◌>>=◌, fields_at}

abbrev pub tag_of : Kind → ℕ
tag_of KsTxn = 1
tag_of KsTxnOk = 2
tag_of KsTxnNo = 3
tag_of KsSince = 4
tag_of KsSinceDone = 5
tag_of KsChange = 6
tag_of KsGrant = 7
tag_of KsGranted = 8
tag_of Promise = 9
tag_of Promised = 10
tag_of Adopt = 11
tag_of Adopted = 12
tag_of Refuse = 13
tag_of Replicate = 14
tag_of Held = 15
tag_of Head = 16
tag_of Append = 17
tag_of AppendDone = 18
tag_of Read = 19
tag_of ReadDone = 20
tag_of StorePut = 21
tag_of StoreDone = 22
tag_of StoreGet = 23
tag_of StoreGot = 24
tag_of StoreList = 25
tag_of StoreNames = 26

abbrev pub kinds_of : Kind → List FieldKind
kinds_of KsTxn = fields.Number ∷ fields.Compares ∷ fields.Writes ∷ []
kinds_of KsTxnOk = fields.Number ∷ fields.Number ∷ []
kinds_of KsTxnNo = fields.Number ∷ fields.Number ∷ fields.Text ∷ fields.Number ∷ []
kinds_of KsSince = fields.Number ∷ fields.Number ∷ []
kinds_of KsSinceDone = fields.Number ∷ fields.Number ∷ fields.Changes ∷ []
kinds_of KsChange = fields.Number ∷ fields.Writes ∷ []
kinds_of KsGrant = fields.Number ∷ fields.Text ∷ fields.Bytes ∷ []
kinds_of KsGranted = fields.Number ∷ fields.Number ∷ []
kinds_of Promise = fields.Text ∷ fields.Number ∷ []
kinds_of Promised = fields.Text ∷ fields.Number ∷ fields.Number ∷ fields.Image ∷ []
kinds_of Adopt = fields.Text ∷ fields.Number ∷ fields.Image ∷ []
kinds_of Adopted = fields.Text ∷ fields.Number ∷ fields.Number ∷ []
kinds_of Refuse = fields.Text ∷ fields.Number ∷ fields.Number ∷ fields.Number ∷ []
kinds_of Replicate = fields.Text ∷ fields.Number ∷ fields.Number ∷ fields.Entry ∷ fields.Number ∷ []
kinds_of Held = fields.Text ∷ fields.Number ∷ fields.Number ∷ []
kinds_of Head = fields.Text ∷ fields.Number ∷ fields.Number ∷ fields.Number ∷ []
kinds_of Append = fields.Number ∷ fields.Text ∷ fields.Optional ∷ fields.Optional ∷ fields.Text ∷ fields.Labels ∷ fields.Labels ∷ fields.Bytes ∷ []
kinds_of AppendDone = fields.Number ∷ fields.Text ∷ fields.Number ∷ fields.Number ∷ fields.Number ∷ fields.Number ∷ fields.Labels ∷ fields.Names ∷ []
kinds_of Read = fields.Number ∷ fields.Text ∷ fields.Number ∷ []
kinds_of ReadDone = fields.Number ∷ fields.Text ∷ fields.Number ∷ fields.Number ∷ fields.Bytes ∷ fields.Number ∷ fields.Names ∷ []
kinds_of StorePut = fields.Number ∷ fields.Text ∷ fields.Number ∷ fields.Number ∷ fields.Bytes ∷ []
kinds_of StoreDone = fields.Number ∷ fields.Text ∷ fields.Number ∷ fields.Number ∷ []
kinds_of StoreGet = fields.Number ∷ fields.Text ∷ fields.Number ∷ []
kinds_of StoreGot = fields.Number ∷ fields.Text ∷ fields.Number ∷ fields.Number ∷ fields.Bytes ∷ []
kinds_of StoreList = fields.Number ∷ fields.Text ∷ []
kinds_of StoreNames = fields.Number ∷ fields.Text ∷ fields.Names ∷ []

-- the fields of a message, in the order of its kinds
abbrev pub fields_of : (m : Msg) → Fields (kinds_of (kind_of m))
fields_of (msgs.KsTxn req compares writes) = (req, (compares, (writes, tt)))
fields_of (msgs.KsTxnOk req revision) = (req, (revision, tt))
fields_of (msgs.KsTxnNo req status key revision) = (req, (status, (key, (revision, tt))))
fields_of (msgs.KsSince req after) = (req, (after, tt))
fields_of (msgs.KsSinceDone req head changes) = (req, (head, (changes, tt)))
fields_of (msgs.KsChange revision writes) = (revision, (writes, tt))
fields_of (msgs.KsGrant req key value) = (req, (key, (value, tt)))
fields_of (msgs.KsGranted req lease) = (req, (lease, tt))
fields_of (msgs.Promise journal epoch) = (journal, (epoch, tt))
fields_of (msgs.Promised journal epoch adopted image) = (journal, (epoch, (adopted, (image, tt))))
fields_of (msgs.Adopt journal epoch image) = (journal, (epoch, (image, tt)))
fields_of (msgs.Adopted journal epoch end) = (journal, (epoch, (end, tt)))
fields_of (msgs.Refuse journal epoch code value) = (journal, (epoch, (code, (value, tt))))
fields_of (msgs.Replicate journal epoch offset entry head) = (journal, (epoch, (offset, (entry, (head, tt)))))
fields_of (msgs.Held journal epoch end) = (journal, (epoch, (end, tt)))
fields_of (msgs.Head journal epoch head begin) = (journal, (epoch, (head, (begin, tt))))
fields_of (msgs.Append req journal epoch offset selector take add content) = (req, (journal, (epoch, (offset, (selector, (take, (add, (content, tt))))))))
fields_of (msgs.AppendDone req journal status begin end value labels route) = (req, (journal, (status, (begin, (end, (value, (labels, (route, tt))))))))
fields_of (msgs.Read req journal offset) = (req, (journal, (offset, tt)))
fields_of (msgs.ReadDone req journal status offset content head route) = (req, (journal, (status, (offset, (content, (head, (route, tt)))))))
fields_of (msgs.StorePut req journal begin end content) = (req, (journal, (begin, (end, (content, tt)))))
fields_of (msgs.StoreDone req journal begin end) = (req, (journal, (begin, (end, tt))))
fields_of (msgs.StoreGet req journal offset) = (req, (journal, (offset, tt)))
fields_of (msgs.StoreGot req journal status offset content) = (req, (journal, (status, (offset, (content, tt)))))
fields_of (msgs.StoreList req journal) = (req, (journal, tt))
fields_of (msgs.StoreNames req journal names) = (req, (journal, (names, tt)))

-- the fields of a message as they are spelled
unfoldable pub payload : Msg → List ℕ
payload m = spell.fields (kinds_of (kind_of m)) (fields_of m)

-- the message of these fields
abbrev pub msg_of : (k : Kind) → Fields (kinds_of k) → Msg
msg_of KsTxn vs = msgs.KsTxn vs.0 vs.1.0 vs.1.1.0
msg_of KsTxnOk vs = msgs.KsTxnOk vs.0 vs.1.0
msg_of KsTxnNo vs = msgs.KsTxnNo vs.0 vs.1.0 vs.1.1.0 vs.1.1.1.0
msg_of KsSince vs = msgs.KsSince vs.0 vs.1.0
msg_of KsSinceDone vs = msgs.KsSinceDone vs.0 vs.1.0 vs.1.1.0
msg_of KsChange vs = msgs.KsChange vs.0 vs.1.0
msg_of KsGrant vs = msgs.KsGrant vs.0 vs.1.0 vs.1.1.0
msg_of KsGranted vs = msgs.KsGranted vs.0 vs.1.0
msg_of Promise vs = msgs.Promise vs.0 vs.1.0
msg_of Promised vs = msgs.Promised vs.0 vs.1.0 vs.1.1.0 vs.1.1.1.0
msg_of Adopt vs = msgs.Adopt vs.0 vs.1.0 vs.1.1.0
msg_of Adopted vs = msgs.Adopted vs.0 vs.1.0 vs.1.1.0
msg_of Refuse vs = msgs.Refuse vs.0 vs.1.0 vs.1.1.0 vs.1.1.1.0
msg_of Replicate vs = msgs.Replicate vs.0 vs.1.0 vs.1.1.0 vs.1.1.1.0 vs.1.1.1.1.0
msg_of Held vs = msgs.Held vs.0 vs.1.0 vs.1.1.0
msg_of Head vs = msgs.Head vs.0 vs.1.0 vs.1.1.0 vs.1.1.1.0
msg_of Append vs = msgs.Append vs.0 vs.1.0 vs.1.1.0 vs.1.1.1.0 vs.1.1.1.1.0 vs.1.1.1.1.1.0 vs.1.1.1.1.1.1.0 vs.1.1.1.1.1.1.1.0
msg_of AppendDone vs = msgs.AppendDone vs.0 vs.1.0 vs.1.1.0 vs.1.1.1.0 vs.1.1.1.1.0 vs.1.1.1.1.1.0 vs.1.1.1.1.1.1.0 vs.1.1.1.1.1.1.1.0
msg_of Read vs = msgs.Read vs.0 vs.1.0 vs.1.1.0
msg_of ReadDone vs = msgs.ReadDone vs.0 vs.1.0 vs.1.1.0 vs.1.1.1.0 vs.1.1.1.1.0 vs.1.1.1.1.1.0 vs.1.1.1.1.1.1.0
msg_of StorePut vs = msgs.StorePut vs.0 vs.1.0 vs.1.1.0 vs.1.1.1.0 vs.1.1.1.1.0
msg_of StoreDone vs = msgs.StoreDone vs.0 vs.1.0 vs.1.1.0 vs.1.1.1.0
msg_of StoreGet vs = msgs.StoreGet vs.0 vs.1.0 vs.1.1.0
msg_of StoreGot vs = msgs.StoreGot vs.0 vs.1.0 vs.1.1.0 vs.1.1.1.0 vs.1.1.1.1.0
msg_of StoreList vs = msgs.StoreList vs.0 vs.1.0
msg_of StoreNames vs = msgs.StoreNames vs.0 vs.1.0 vs.1.1.0

-- the message of the kind whose fields are all of the bytes
unfoldable pub message_at : Kind → List ℕ → Result Msg ℕ
message_at k bytes = fields_at (kinds_of k) 1 bytes >>= λ vs. Ok (msg_of k vs)
