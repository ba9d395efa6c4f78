-- The log and the lists that a text says.
use Rattle.std.specs.Prelude.{◌≡◌, ℕ, ◌==◌, ◌<◌, cond, List, [], ◌∷◌, ◌++◌, map, replicate, Option, Some, None, ⊤}
use Rattle.std.specs.Prelude.{slice_set, slice_index_or}
use Rattle.std.specs.List.{filter_map}
use Rattle.pp_model.specs.declared.Change.{Change}
use Rattle.pp_model.specs.declared.Placed.{Placed}
use Rattle.pp_model.specs.Lists.{upto, AtEach}
use Rattle.pp_certificate.specs.declared.Entry.{Entry}
use Rattle.pp_certificate.specs.declared.Entry.TheVariants.{Opens, Changes, Says, Ends}
use Rattle.pp_certificate.specs.declared.reading.CertificateFault.{CertificateFault}
use Rattle.pp_certificate.specs.declared.reading.CertificateFault.TheVariants.{BadLine, NoMemory}
use Rattle.pp_certificate.specs.Cuts.{parts_of}
use Rattle.pp_certificate.specs.Lines.{line_entry}
use Rattle.pp_certificate.specs.Stages.{first_bad}

-- a log, and for each caller below 64 its list
pub record CertificateView : Type 0 where
  pub log : List Change
  pub lists : List (List Placed)

-- what the lines say, in their order
abbrev pub entries_in : List (List ℕ) → List Entry
entries_in parts = filter_map line_entry parts

abbrev pub change_in : Entry → Option Change
change_in Opens = None
change_in (Changes change) = Some change
change_in (Says caller placed) = None
change_in Ends = None

-- the placed call that an entry says, where it is this caller's
abbrev pub placed_in : ℕ → Entry → Option Placed
placed_in c Opens = None
placed_in c (Changes change) = None
placed_in c (Says caller placed) = cond (caller == c) (Some placed) None
placed_in c Ends = None

abbrev pub log_in : List Entry → List Change
log_in entries = filter_map change_in entries

abbrev pub list_in : ℕ → List Entry → List Placed
list_in c entries = filter_map (placed_in c) entries

-- the log that a text says
abbrev pub log_of : List ℕ → List Change
log_of text = log_in (entries_in (parts_of text))

-- the list of caller c that a text says
abbrev pub list_of : List ℕ → ℕ → List Placed
list_of text c = list_in c (entries_in (parts_of text))

-- a text is a certificate of this log and these lists
pub record IsCertificate (text : List ℕ) (said : CertificateView) : Type 0 where
  pub good : first_bad text ≡ None
  pub log_is : said.log ≡ log_of text
  pub lists_are : said.lists ≡ map (list_of text) (upto 0 64)
  -- what follows from that
  pub callers : AtEach said.log (λ p c. c.caller < 64)

-- why a text gave none
abbrev pub CertificateCause : List ℕ → CertificateFault → Type 0
CertificateCause text (BadLine line) = first_bad text ≡ Some line
CertificateCause text NoMemory = ⊤

-- ---- a certificate that grows

abbrev pub empty_lists : List (List Placed)
empty_lists = replicate 64 []

abbrev pub with_change : CertificateView → Change → CertificateView
with_change said change = record said { log = said.log ++ change ∷ [] }

abbrev pub with_placed : CertificateView → ℕ → Placed → CertificateView
with_placed said caller placed =
    record said { lists = slice_set said.lists caller (slice_index_or said.lists caller [] ++ placed ∷ []) }

abbrev pub with_entry : CertificateView → Entry → CertificateView
with_entry said Opens = said
with_entry said (Changes change) = with_change said change
with_entry said (Says caller placed) = with_placed said caller placed
with_entry said Ends = said
