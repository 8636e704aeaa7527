-- How a cluster takes the theorem over. A relation says which run over journals a state of the cluster shows; each of its steps has
-- to be a list of events here. Then all that is claimed holds of what it shows.
use Rattle.std.proofs.Common.{◌≡◌, List, [], ◌∷◌, ◌++◌, refl, subst}
use Rattle.gz_once.specs.Applications.{App}
use Rattle.gz_once.specs.Worlds.{World, Event, happens, run, start}
use Rattle.gz_once.specs.Theorem.{Fenced, ExactlyOnce, AcknowledgedBefore, OfCommits, OneMessage}
use Rattle.gz_once.proofs.Claims.{fenced, once, acknowledged}
use Rattle.gz_once.proofs.Messages.{of_commits_all, one_message}
