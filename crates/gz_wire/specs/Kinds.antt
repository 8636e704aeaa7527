-- Kinds of messages and their names.
use Rattle.std.specs.Prelude.{ℕ, List, [], ◌∷◌, Option, Some, None, if◌then◌else◌, codes}
use Rattle.std.specs.Str.{bytes_eq}
use Rattle.gz_wire.specs.declared.msg.Msg.{Msg}
use Rattle.gz_wire.specs.declared.msg.Msg.TheVariants as msgs
use Rattle.gz_wire.specs.declared.kind.Kind.{Kind}
use Rattle.gz_wire.specs.declared.kind.Kind.TheVariants.{KsTxn, KsTxnOk, KsTxnNo, KsSince, KsSinceDone, KsChange, KsGrant, KsGranted, Promise, Promised, Adopt, Adopted, Refuse, Replicate, Held, Head, Append, AppendDone, Read, ReadDone, StorePut, StoreDone, StoreGet, StoreGot, StoreList, StoreNames}

-- the kind's name
unfoldable pub name_of : Kind → List ℕ
name_of KsTxn = codes "KsTxn"
name_of KsTxnOk = codes "KsTxnOk"
name_of KsTxnNo = codes "KsTxnNo"
name_of KsSince = codes "KsSince"
name_of KsSinceDone = codes "KsSinceDone"
name_of KsChange = codes "KsChange"
name_of KsGrant = codes "KsGrant"
name_of KsGranted = codes "KsGranted"
name_of Promise = codes "Promise"
name_of Promised = codes "Promised"
name_of Adopt = codes "Adopt"
name_of Adopted = codes "Adopted"
name_of Refuse = codes "Refuse"
name_of Replicate = codes "Replicate"
name_of Held = codes "Held"
name_of Head = codes "Head"
name_of Append = codes "Append"
name_of AppendDone = codes "AppendDone"
name_of Read = codes "Read"
name_of ReadDone = codes "ReadDone"
name_of StorePut = codes "StorePut"
name_of StoreDone = codes "StoreDone"
name_of StoreGet = codes "StoreGet"
name_of StoreGot = codes "StoreGot"
name_of StoreList = codes "StoreList"
name_of StoreNames = codes "StoreNames"

-- every kind, in the order of the tags
abbrev pub every_kind : List Kind
every_kind = KsTxn ∷ KsTxnOk ∷ KsTxnNo ∷ KsSince ∷ KsSinceDone ∷ KsChange ∷ KsGrant ∷ KsGranted ∷ Promise ∷ Promised ∷ Adopt ∷ Adopted ∷ Refuse ∷ Replicate ∷ Held ∷ Head ∷ Append ∷ AppendDone ∷ Read ∷ ReadDone ∷ StorePut ∷ StoreDone ∷ StoreGet ∷ StoreGot ∷ StoreList ∷ StoreNames ∷ []

-- the first of these kinds that has the name
abbrev pub first_named : List ℕ → List Kind → Option Kind
first_named name [] = None
first_named name (k ∷ ks) = if bytes_eq name (name_of k) then Some k else first_named name ks

-- the kind that has the name
unfoldable pub kind_named : List ℕ → Option Kind
kind_named name = first_named name every_kind

abbrev pub kind_of : Msg → Kind
kind_of (msgs.KsTxn req compares writes) = KsTxn
kind_of (msgs.KsTxnOk req revision) = KsTxnOk
kind_of (msgs.KsTxnNo req status key revision) = KsTxnNo
kind_of (msgs.KsSince req after) = KsSince
kind_of (msgs.KsSinceDone req head changes) = KsSinceDone
kind_of (msgs.KsChange revision writes) = KsChange
kind_of (msgs.KsGrant req key value) = KsGrant
kind_of (msgs.KsGranted req lease) = KsGranted
kind_of (msgs.Promise journal epoch) = Promise
kind_of (msgs.Promised journal epoch adopted image) = Promised
kind_of (msgs.Adopt journal epoch image) = Adopt
kind_of (msgs.Adopted journal epoch end) = Adopted
kind_of (msgs.Refuse journal epoch code value) = Refuse
kind_of (msgs.Replicate journal epoch offset entry head) = Replicate
kind_of (msgs.Held journal epoch end) = Held
kind_of (msgs.Head journal epoch head begin) = Head
kind_of (msgs.Append req journal epoch offset selector take add content) = Append
kind_of (msgs.AppendDone req journal status begin end value labels route) = AppendDone
kind_of (msgs.Read req journal offset) = Read
kind_of (msgs.ReadDone req journal status offset content head route) = ReadDone
kind_of (msgs.StorePut req journal begin end content) = StorePut
kind_of (msgs.StoreDone req journal begin end) = StoreDone
kind_of (msgs.StoreGet req journal offset) = StoreGet
kind_of (msgs.StoreGot req journal status offset content) = StoreGot
kind_of (msgs.StoreList req journal) = StoreList
kind_of (msgs.StoreNames req journal names) = StoreNames
