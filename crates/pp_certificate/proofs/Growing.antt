-- What the lines of a text say, one after the other, and the certificate that grows from them.
use Rattle.std.proofs.Common.{◌≡◌, ℕ, zero, suc, ◌+◌, ◌<◌, ◌≤◌, cond, true, false, List, [], ◌∷◌, ◌++◌, length, map, drop, get_or}
use Rattle.std.proofs.Common.{set, replicate, refl}
use Rattle.std.proofs.Common.{Option, Some, None, ap, ◌∙◌, sym, ⊎_elim, arith, subst, option_and_then}
use Rattle.std.specs.Prelude.{slice_get}
use Rattle.std.specs.List.{between, cons_option}
use Rattle.std.proofs.lemmas.Bool.{cases_lt, cases_eq, eq-eqb, ne_eqb, lt-ltb, cond_both}
use Rattle.std.proofs.lemmas.List.{append_assoc, append-nil, length-set, length-replicate, get_or-set_other, get_or_past, get_or_default}
use Rattle.std.proofs.lemmas.List.{get_or-replicate, length-map, get_or-map, same_lists, drop_all, map-set, length-drop}
use Rattle.std.proofs.lemmas.List.Splits.{length-slice_split}
use Rattle.std.proofs.lemmas.Grind.{get_or-set_at}
use Rattle.pp_model.specs.declared.Change.{Change}
use Rattle.pp_model.specs.declared.Placed.{Placed}
use Rattle.pp_model.specs.Lists.{upto, AtEach}
use Rattle.pp_model.proofs.Positions.{slice_get_push}
use Rattle.pp_trace.specs.Lines.{is_line_feed, is_some_text}
use Rattle.pp_certificate.specs.declared.Entry.{Entry}
use Rattle.pp_certificate.specs.declared.Entry.TheVariants.{Opens, Changes, Says, Ends}
use Rattle.pp_certificate.specs.declared.entries.Stage.{Stage}
use Rattle.pp_certificate.specs.Cuts.{parts_of, IsLastPart, IsLineTo}
use Rattle.pp_certificate.specs.Lines.{line_entry, EntryFits}
use Rattle.pp_certificate.specs.Stages.{next_stage, stage_after, has_ended, may_end, unless_after, first_bad_from, first_bad}
use Rattle.pp_certificate.specs.Certificates.{CertificateView, entries_in, log_in, list_in, log_of, list_of, IsCertificate, empty_lists}
use Rattle.pp_certificate.specs.Certificates.{with_change, with_placed, with_entry}
use Rattle.pp_certificate.proofs.Callers.{entry_fits}

abbrev pub certificate : List Change → List (List Placed) → CertificateView
certificate log lists = record { log = log; lists = lists }

-- log and lists have what a text says but for what these parts say, which are left
pub record HasReadTo (text : List ℕ) (parts : List (List ℕ)) (said : CertificateView) : Type 0 where
  pub size : length said.lists ≡ 64
  pub log : log_of text ≡ said.log ++ log_in (entries_in parts)
  pub each : (c : ℕ) → c < 64 → list_of text c ≡ get_or said.lists c [] ++ list_in c (entries_in parts)
  pub callers : AtEach said.log (λ p c. c.caller < 64)

-- ---- the first bad line

pub first_bad_from-cons : (n : ℕ) (stage : Stage) (line : List ℕ) (parts : List (List ℕ)) → 0 < length parts
    → first_bad_from n stage (line ∷ parts) ≡ unless_after n (stage_after stage line) (λ later. first_bad_from (n + 1) later parts)
first_bad_from-cons n stage line [] some = absurd (omega arith)
first_bad_from-cons n stage line (next ∷ more) some = refl

line_first : (text : List ℕ) (from feed n : ℕ) (stage : Stage) → IsLineTo text from feed
    → first_bad_from n stage (parts_of (drop from text))
    ≡ unless_after n (stage_after stage (between from feed text)) (λ later. first_bad_from (n + 1) later (parts_of (drop (feed + 1) text)))
line_first text from feed n stage is =
    let many = length-slice_split is_line_feed (drop (feed + 1) text) in
    ap (first_bad_from n stage) is.parts
    ∙ first_bad_from-cons n stage (between from feed text) (parts_of (drop (feed + 1) text)) (omega arith)

-- a line that can come next
pub goes_on : (text : List ℕ) (from feed n : ℕ) (stage later : Stage) (entry : Entry) → IsLineTo text from feed
    → Some entry ≡ line_entry (between from feed text) → Some later ≡ next_stage stage entry
    → first_bad text ≡ first_bad_from n stage (parts_of (drop from text))
    → first_bad text ≡ first_bad_from (n + 1) later (parts_of (drop (feed + 1) text))
goes_on text from feed n stage later entry is says next good =
    let rest : Stage → Option ℕ = λ s. first_bad_from (n + 1) s (parts_of (drop (feed + 1) text)) in
    let after : stage_after stage (between from feed text) ≡ Some later = ap (option_and_then (next_stage stage)) (sym says) ∙ sym next in
    good ∙ line_first text from feed n stage is ∙ ap (λ s. unless_after n s rest) after

-- a line that says nothing
pub stops_unread : (text : List ℕ) (from feed n : ℕ) (stage : Stage) → IsLineTo text from feed
    → None ≡ line_entry (between from feed text) → first_bad text ≡ first_bad_from n stage (parts_of (drop from text))
    → first_bad text ≡ Some n
stops_unread text from feed n stage is says good =
    let rest : Stage → Option ℕ = λ s. first_bad_from (n + 1) s (parts_of (drop (feed + 1) text)) in
    good ∙ line_first text from feed n stage is ∙ ap (λ e. unless_after n (option_and_then (next_stage stage) e) rest) (sym says)

-- a line that can't come next
pub stops_there : (text : List ℕ) (from feed n : ℕ) (stage : Stage) (entry : Entry) → IsLineTo text from feed
    → Some entry ≡ line_entry (between from feed text) → None ≡ next_stage stage entry
    → first_bad text ≡ first_bad_from n stage (parts_of (drop from text)) → first_bad text ≡ Some n
stops_there text from feed n stage entry is says next good =
    let rest : Stage → Option ℕ = λ s. first_bad_from (n + 1) s (parts_of (drop (feed + 1) text)) in
    good ∙ line_first text from feed n stage is
    ∙ ap (λ e. unless_after n (option_and_then (next_stage stage) e) rest) (sym says) ∙ ap (λ s. unless_after n s rest) (sym next)

-- what follows the last line feed, where the text can't end there
pub stops_last : (text : List ℕ) (from n : ℕ) (stage : Stage) → IsLastPart text from → may_end stage (drop from text) ≡ false
    → first_bad text ≡ first_bad_from n stage (parts_of (drop from text)) → first_bad text ≡ Some n
stops_last text from n stage last cannot good = good ∙ ap (first_bad_from n stage) last ∙ ap (λ b. cond b None (Some n)) cannot

pub early : (stage : Stage) (rest : List ℕ) → has_ended stage ≡ false → may_end stage rest ≡ false
early stage rest other = rw other (cond_both (is_some_text rest) false false (λ b. b ≡ false) (λ _. refl) (λ _. refl))

pub unended : (text : List ℕ) (from : ℕ) (stage : Stage) → from < length text → may_end stage (drop from text) ≡ false
unended text from stage more =
    let some : is_some_text (drop from text) ≡ true = lt-ltb 0 (length (drop from text)) (omega (arith, length-drop from text)) in
    rw some refl

-- ---- what was said

nothing-at : (n c : ℕ) → get_or {A = List Placed} (replicate n []) c [] ≡ []
nothing-at n c =
    ⊎_elim
    (λ within. get_or-replicate n c [] [] within)
    (λ past. get_or_past (replicate n []) c [] (omega (arith, length-replicate {A = List Placed} n [])))
    (cases_lt c n)

-- at first nothing was read
pub read_none : (text : List ℕ) (said : CertificateView) → said.log ≡ [] → said.lists ≡ empty_lists → HasReadTo text (parts_of text) said
read_none text said log lists = record {
  size = ap length lists ∙ length-replicate {A = List Placed} 64 [];
  log = ap (λ changes. changes ++ log_of text) (sym log);
  each = λ c within. ap (λ calls. calls ++ list_of text c) (sym (nothing-at 64 c))
      ∙ ap (λ all. get_or all c [] ++ list_of text c) (sym lists);
  callers = λ p c e. let none : slice_get {X = Change} [] p ≡ Some c = ap (λ changes. slice_get changes p) (sym log) ∙ e in cc;
}

list_in-same : (c a : ℕ) (placed : Placed) (left : List Entry) → a ≡ c → list_in c (Says a placed ∷ left) ≡ placed ∷ list_in c left
list_in-same c a placed left e = let same = eq-eqb a c e in rw same refl

list_in-other : (c a : ℕ) (placed : Placed) (left : List Entry) → (a ≡ c → ⊥) → list_in c (Says a placed ∷ left) ≡ list_in c left
list_in-other c a placed left ne = let other = ne_eqb a c ne in rw other refl

-- the same, with the entries that are left
record HasReadBut (text : List ℕ) (left : List Entry) (said : CertificateView) : Type 0 where
  size : length said.lists ≡ 64
  log : log_of text ≡ said.log ++ log_in left
  each : (c : ℕ) → c < 64 → list_of text c ≡ get_or said.lists c [] ++ list_in c left
  callers : AtEach said.log (λ p c. c.caller < 64)

read_change : (text : List ℕ) (left : List Entry) (said : CertificateView) (change : Change) → change.caller < 64
    → HasReadBut text (Changes change ∷ left) said → HasReadBut text left (with_change said change)
read_change text left said change fits read = record {
  size = read.size;
  log = read.log ∙ sym (append_assoc said.log (change ∷ []) (log_in left));
  each = read.each;
  callers = λ p c e. ⊎_elim (λ old. read.callers p c old)
      (λ new. let is : change ≡ c = sym new.1 in subst (λ (x : Change). x.caller < 64) is fits)
      (slice_get_push said.log change p c e);
}

read_placed : (text : List ℕ) (left : List Entry) (said : CertificateView) (a : ℕ) (placed : Placed) → a < 64
    → HasReadBut text (Says a placed ∷ left) said → HasReadBut text left (with_placed said a placed)
read_placed text left said a placed below read =
    let lists = said.lists in
    let longer = get_or lists a [] ++ placed ∷ [] in
    record {
      size = length-set lists a longer ∙ read.size;
      log = read.log;
      callers = read.callers;
      each = λ c within.
          ⊎_elim
          (λ same.
          let before = ap (λ calls. get_or lists c [] ++ calls) (list_in-same c a placed left same) in
          let here : get_or (set lists a longer) c [] ≡ get_or lists c [] ++ placed ∷ [] =
          get_or-set_at lists a c longer [] (sym same) (omega (arith, read.size)) ∙ ap (λ k. get_or lists k [] ++ placed ∷ []) same in
          read.each c within ∙ before ∙ sym (append_assoc (get_or lists c []) (placed ∷ []) (list_in c left))
          ∙ ap (λ calls. calls ++ list_in c left) (sym here))
          (λ other.
          let before = ap (λ calls. get_or lists c [] ++ calls) (list_in-other c a placed left other) in
          let here = get_or-set_other lists a c longer [] (λ e. other (sym e)) in
          read.each c within ∙ before ∙ ap (λ calls. calls ++ list_in c left) (sym here))
          (cases_eq a c);
    }

read_entry : (text : List ℕ) (left : List Entry) (said : CertificateView) (entry : Entry) → EntryFits entry
    → HasReadBut text (entry ∷ left) said → HasReadBut text left (with_entry said entry)
read_entry text left said Opens fits read = record { size = read.size; log = read.log; each = read.each; callers = read.callers }
read_entry text left said (Changes change) fits read = read_change text left said change fits read
read_entry text left said (Says caller placed) fits read = read_placed text left said caller placed fits read
read_entry text left said Ends fits read = record { size = read.size; log = read.log; each = read.each; callers = read.callers }

-- one more line
pub reads_on : (text : List ℕ) (from feed : ℕ) (entry : Entry) (said : CertificateView) → IsLineTo text from feed
    → Some entry ≡ line_entry (between from feed text) → HasReadTo text (parts_of (drop from text)) said
    → HasReadTo text (parts_of (drop (feed + 1) text)) (with_entry said entry)
reads_on text from feed entry said is says read =
    let rest = parts_of (drop (feed + 1) text) in
    let left : entries_in (parts_of (drop from text)) ≡ entry ∷ entries_in rest =
    ap entries_in is.parts ∙ ap (λ o. cons_option o (entries_in rest)) (sym says) in
    let after = read_entry text (entries_in rest) said entry (entry_fits (between from feed text) entry says) (record {
      size = read.size;
      log = read.log ∙ ap (λ es. said.log ++ log_in es) left;
      each = λ c within. read.each c within ∙ ap (λ es. get_or said.lists c [] ++ list_in c es) left;
      callers = read.callers;
    }) in
    record { size = after.size; log = after.log; each = after.each; callers = after.callers }

pub length-upto : (low n : ℕ) → length (upto low n) ≡ n
length-upto low zero = refl
length-upto low (suc n) = ap suc (length-upto (low + 1) n)

pub get_or-upto : (low n k d : ℕ) → k < n → get_or (upto low n) k d ≡ low + k
get_or-upto low zero k d within = absurd (omega arith)
get_or-upto low (suc n) zero d within = omega arith
get_or-upto low (suc n) (suc k) d within = get_or-upto (low + 1) n k d (omega arith) ∙ omega arith

lists_are : (text : List ℕ) (said : CertificateView) → length said.lists ≡ 64
    → ((c : ℕ) → c < 64 → list_of text c ≡ get_or said.lists c []) → said.lists ≡ map (list_of text) (upto 0 64)
lists_are text said size each =
    let all = upto 0 64 in
    let len = length-upto 0 64 in
    same_lists said.lists (map (list_of text) all) (size ∙ sym len ∙ sym (length-map all (list_of text)))
    (λ k d within.
    let below : k < 64 = omega (arith, size) in
    let place : get_or all k 0 ≡ k = get_or-upto 0 64 k 0 below ∙ omega arith in
    get_or_default said.lists k d [] within ∙ sym (each k below) ∙ sym (ap (list_of text) place)
    ∙ sym (get_or-map (list_of text) all k 0 d (omega arith)))

-- the whole text was read, and may end there
pub read_all : (text : List ℕ) (from n : ℕ) (stage : Stage) (said : CertificateView) → IsLastPart text from → length text ≤ from
    → has_ended stage ≡ true → first_bad text ≡ first_bad_from n stage (parts_of (drop from text))
    → HasReadTo text (parts_of (drop from text)) said → IsCertificate text said
read_all text from n stage said last end ended good read =
    let none : drop from text ≡ [] = drop_all from text end in
    let left : entries_in (parts_of (drop from text)) ≡ [] = ap (λ t. entries_in (parts_of t)) none in
    record {
      good = good ∙ ap (λ t. first_bad_from n stage (parts_of t)) none ∙ ap (λ b. cond b None (Some n)) ended;
      log_is = sym (read.log ∙ ap (λ es. said.log ++ log_in es) left ∙ append-nil said.log);
      lists_are = lists_are text said read.size (λ c within.
          read.each c within ∙ ap (λ es. get_or said.lists c [] ++ list_in c es) left ∙ append-nil (get_or said.lists c []));
      callers = read.callers;
    }

-- ---- the vectors behind it

-- a push to one of the vectors is a push to its list
pub placed_in_vectors : {X : Type 0} (list : X → List Placed) (vectors : List X) (log : List Change) (caller : ℕ) (old new : X)
    (placed : Placed)
    → caller < length vectors → old ≡ get_or vectors caller old → list new ≡ list old ++ placed ∷ []
    → certificate log (map list (set vectors caller new)) ≡ with_placed (certificate log (map list vectors)) caller placed
placed_in_vectors list vectors log caller old new placed within was is =
    ap (certificate log)
    (map-set list vectors caller new
    ∙ ap (set (map list vectors) caller)
    (is ∙ ap (λ calls. calls ++ placed ∷ []) (ap list was ∙ sym (get_or-map list vectors caller old [] within))))
