-- Sources that are read on, one after another.
use Rattle.std.proofs.Common.{◌≡◌, ℕ, ◌+◌, ◌≤◌, ◌^◌, List, [], ◌∷◌, ◌++◌, length, map, refl, ap, sym, ◌∙◌, subst, append_assoc, append-nil, Bool, arith}
use Rattle.std.proofs.lemmas.List.{length-append}
use Rattle.gz_frame.specs.Messages.{Message}
use Rattle.gz_plain.specs.Cluster.{AreSmallSources, passed, reaches, reader_upto, readers_upto, source_named}
use Rattle.gz_promise.specs.Journals.{Journal}
use Rattle.gz_promise.specs.Parts.{part}
use Rattle.gz_plain.specs.Shards.{Mark}
use Rattle.gz_promise.specs.Sources.{Source, committed}
use Rattle.gz_plain.specs.declared.cluster.Source as named
use Rattle.gz_plain.specs.declared.reader.Reader.{Reader}

-- how far reading is: the readers, offsets and messages so far, and the sources that are left
pub record IsReaching (js : List Journal) (has_commits : Bool) (marks : List Mark) (all rest : List named.Source) (readers : List Reader) (offsets : List ℕ) (messages : ℕ) : Type 0 where
  pub small : AreSmallSources rest
  pub read : readers ++ readers_upto js has_commits marks rest ≡ readers_upto js has_commits marks all
  pub upto : offsets ++ map (reaches js has_commits marks) (map source_named rest) ≡ map (reaches js has_commits marks) (map source_named all)
  pub passing : messages + passed js has_commits marks (map source_named rest) ≡ passed js has_commits marks (map source_named all)
