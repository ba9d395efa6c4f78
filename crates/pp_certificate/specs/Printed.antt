-- The text of a certificate.
use Rattle.std.specs.Prelude.{◌≡◌, ℕ, ◌+◌, ◌<◌, ◌≤◌, ◌^◌, List, [], ◌∷◌, ◌++◌, length, codes, slice_index_or}
use Rattle.std.specs.List.{flat_map}
use Rattle.std.specs.Fmt.{decimal}
use Rattle.pp_model.specs.declared.Call.{Call}
use Rattle.pp_model.specs.declared.Call.TheVariants.{Get, Insert, Remove, Cut}
use Rattle.pp_model.specs.declared.Reply.{Reply}
use Rattle.pp_model.specs.declared.Reply.TheVariants.{Value, Absent, Added, Held, Took, Other}
use Rattle.pp_model.specs.declared.Change.{Change}
use Rattle.pp_model.specs.declared.Placed.{Placed}
use Rattle.pp_model.specs.Lists.{AtEach}
use Rattle.pp_trace.specs.Text.{reply_text}
use Rattle.pp_certificate.specs.Certificates.{CertificateView, IsCertificate}

abbrev pub call_text : Call → List ℕ
call_text (Get k) = codes "get " ++ decimal k
call_text (Insert k v) = codes "insert " ++ decimal k ++ codes " " ++ decimal v
call_text (Remove k) = codes "remove " ++ decimal k
call_text (Cut k v) = codes "cut " ++ decimal k ++ codes " " ++ decimal v

-- the line of a change
abbrev pub change_line : Change → List ℕ
change_line c = codes "change " ++ decimal c.caller ++ codes " " ++ decimal c.number ++ codes " " ++ call_text c.call ++ codes "\n"

-- the line of a caller's placed call
abbrev pub said_line : ℕ → Placed → List ℕ
said_line caller s =
    codes "said " ++ decimal caller ++ codes " " ++ decimal s.place ++ codes " " ++ call_text s.call ++ codes " " ++ reply_text s.reply
    ++ codes "\n"

-- the lines of the callers' lists, from caller c on
abbrev pub said_text : ℕ → List (List Placed) → List ℕ
said_text c [] = []
said_text c (mine ∷ lists) = flat_map (said_line c) mine ++ said_text (c + 1) lists

-- the certificate of a log and the callers' lists
abbrev pub certificate_text : List Change → List (List Placed) → List ℕ
certificate_text log lists = codes "certificate 1\n" ++ (flat_map change_line log ++ (said_text 0 lists ++ codes "end\n"))

-- ---- what has a certificate

abbrev pub KeyFits : ℕ → Type 0
KeyFits key = key ≤ 18446744073709551612

abbrev pub ValueFits : ℕ → Type 0
ValueFits value = value < 2 ^ 128

abbrev pub CallFits : Call → Type 0
CallFits (Get k) = KeyFits k
CallFits (Insert k v) = KeyFits k × ValueFits v
CallFits (Remove k) = KeyFits k
CallFits (Cut k v) = KeyFits k × ValueFits v

abbrev pub ReplyFits : Reply → Type 0
ReplyFits (Value v) = ValueFits v
ReplyFits Absent = Unit {0}
ReplyFits Added = Unit {0}
ReplyFits (Held v) = ValueFits v
ReplyFits (Took v) = ValueFits v
ReplyFits (Other v) = ValueFits v

pub record ChangeFits (c : Change) : Type 0 where
  pub caller : c.caller < 64
  pub number : c.number < 2 ^ 64
  pub call : CallFits c.call

pub record PlacedFits (s : Placed) : Type 0 where
  pub place : s.place < 2 ^ 64
  pub call : CallFits s.call
  pub reply : ReplyFits s.reply

-- their numbers are in range
pub record Fit (log : List Change) (lists : List (List Placed)) : Type 0 where
  pub callers : length lists ≤ 64
  pub changes : AtEach log (λ p c. ChangeFits c)
  pub placed : AtEach lists (λ c mine. AtEach mine (λ n s. PlacedFits s))

-- The law: the text of a log and lists is their certificate, where callers without a list have an empty one.
abbrev pub TextsAreCertificates : Type 0
TextsAreCertificates = (log : List Change) (lists : List (List Placed)) → Fit log lists
    → (said : CertificateView) × IsCertificate (certificate_text log lists) said × (said.log ≡ log)
    × ((c : ℕ) → c < 64 → slice_index_or said.lists c [] ≡ slice_index_or lists c [])
