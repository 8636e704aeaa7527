use Rattle.gz_carry.proofs.Openings.{open_route_seen, on_promised_seen, on_store_end_seen, on_adopted_seen, on_synced_seen, on_sync_refused_seen}
use Rattle.gz_carry.proofs.laws.openings_are_carried.Goals as goal

pub returns-clause-route : goal.returns-clause-route
returns-clause-route c = λ num lists j me req m n r s seen route less. open_route_seen num j me req m n seen lists r s route less

pub returns-clause-promised : goal.returns-clause-promised
returns-clause-promised c = λ num same h j me from req m n epoch report other seen ok told copy. on_promised_seen num j me req m n seen same h ok from epoch report other told copy

pub returns-clause-store_end : goal.returns-clause-store_end
returns-clause-store_end c = λ num h j me req m n end list_req text r reports seen ok part is. on_store_end_seen num j me req m n seen h ok end list_req text is r reports part

pub returns-clause-adopted : goal.returns-clause-adopted
returns-clause-adopted c = λ num same lists j me from req m n epoch end k seen. on_adopted_seen num j me req m n seen same lists from epoch end k

pub returns-clause-synced : goal.returns-clause-synced
returns-clause-synced c = λ num h j me m n r req seen ok part. on_synced_seen num j me req m n seen h ok r req part

pub returns-clause-refused : goal.returns-clause-refused
returns-clause-refused c = λ num lists me m n seen. on_sync_refused_seen num me me 0 m n seen lists
