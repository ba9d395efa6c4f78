-- Steps that change no state: all facts of every pool after such a step, what a shape sees of it, and steps that change nothing.
use Rattle.std.proofs.Common.{◌≡◌, ℕ, ◌*◌, ◌<◌, true, List, [], map, length, get_or, set, refl, sym}
use Rattle.std.proofs.Common.{ap, ◌∙◌, subst}
use Rattle.std.proofs.lemmas.List.{set-get_or}
use Rattle.pp_link.specs.declared.layout.Sizes.{Sizes}
use Rattle.pp_link.specs.Places.{IsNumber}
use Rattle.pp_link.specs.Words.{frontier_word}
use Rattle.pp_rule.specs.Lists.{IsIn}
use Rattle.pp_rule.specs.Orders.{LoggedStep}
use Rattle.pp_rule.specs.Views.{WalkSlot, blank, PrivateRecord, PassState, slot, guarding}
use Rattle.pp_rule.specs.States.{RecordState, in_hand, shelved, IsStateIn, PoolState, Held}
use Rattle.pp_rule.specs.Rule.{number_of, Hazards, Scans, Base}
use Rattle.pp_rule.specs.Steps.{entry}
use Rattle.pp_rule.specs.Looks.{SameOwn, SameSeen, LooksSame, Clears, Cleared}
use Rattle.pp_rule.specs.Laws.{KeptAlike}
use Rattle.pp_rule.specs.Changes.{SameBase}
use Rattle.pp_rule.proofs.Put.{put, put_here, put_else, put_each}
use Rattle.pp_rule.proofs.Slots.{same_own}
use Rattle.pp_rule.proofs.Stepping.{after_step, KeepsRule}
use Rattle.pp_rule.proofs.Frames.{SameUsed, SameContent, content_used, same_content, reads_after, links_after, shelves_after}
use Rattle.pp_rule.proofs.Frames.{SameLists, numbers_after, privates_after, hazards_after, chains_after, Unscanned, scans_after}

module _ {E A W : Type 0} (sides : ℕ) (z : Sizes) where
  -- a record on a shelf names a shelf word that there is
  pub shelf_scope : (words : List ℕ) (g : PoolState E A W) → Base sides z words g → (n j : ℕ) → g.status n ≡ shelved j → IsNumber z n
      → j < 8 * z.passes
  shelf_scope words g b n j is number = subst (IsStateIn z) is (b.numbers.scope n number)

  -- a chain in hand has a pass and a frontier word that there are
  pub hand_scope : (words : List ℕ) (g : PoolState E A W) → Base sides z words g → (n p j : ℕ) → g.status n ≡ in_hand p j → IsNumber z n
      → (p < z.passes) × (j < 4)
  hand_scope words g b n p j is number = subst (IsStateIn z) is (b.numbers.scope n number)

  -- The facts of every pool after a step that changes hazard words alone, and no list of its pass: the facts on hazard words and
  -- on scans are left to the kind of step.
  pub base_after : (words new : List ℕ) (g : PoolState E A W) (q' : PassState W) (s : LoggedStep E A) → Base sides z words g
      → SameContent z words new → q'.number < z.passes → SameLists (g.of q'.number) q'
      → ((n p j : ℕ) → IsNumber z n → g.status n ≡ in_hand p j → frontier_word new z p j ≡ frontier_word words z p j)
      → Hazards z new (put g.of q'.number q') g.status → Scans sides z new (put g.of q'.number q') g.status
      → Base sides z new (after_step g q' g.status s)
  base_after words new g q' s b content low lists guards hazards scans = let used = content_used z g.status words new content in record {
    within = b.within;
    two = b.two;
    wide = content.wide ∙ b.wide;
    numbers = numbers_after z g.of q'.number q' g.status (ap (map number_of) lists.owned) lists.retired_are b.numbers;
    privates = privates_after z g.of q'.number q' words new
        (λ r d below other i. reads_after z words new d (λ f four. content.cells d.number f (b.numbers.owned_to r d below i).0 four)
        (b.privates.reads r d below i))
        (λ d i. let was = subst (λ (l : List PrivateRecord). IsIn d l) lists.owned i in
        reads_after z words new d (λ f four. content.cells d.number f (b.numbers.owned_to q'.number d low was).0 four)
        (b.privates.reads q'.number d low was));
    hazards = hazards;
    links = links_after z sides words new g.status b.two used guards b.links;
    shelves = shelves_after z words new g.status (shelf_scope words g b) content.shelves b.shelves;
    chains = chains_after z g.of q'.number q' sides words new g.status b.two used lists.chains b.chains;
    scans = scans;
  }

  -- what is held already is left in no scan that read its word
  pub was_unscanned : (words : List ℕ) (g : PoolState E A W) (p i : ℕ) → Base sides z words g → p < z.passes → i < 5
      → (slot (g.of p) i).held ≡ true
      → Unscanned z g.of p (g.of p) i (slot (g.of p) i).named
  was_unscanned words g p i b low five on r m below left read = b.scans.walks r m p i below left low five read on

  -- the part of the pass that these facts speak of is as it was: they stay, whatever its shape's part
  pub base_idle : (words : List ℕ) (g : PoolState E A W) (q q' : PassState W) (s : LoggedStep E A) → Base sides z words g
      → q.number < z.passes
      → g.of q.number ≡ q → SameBase q q' → Base sides z words (after_step g q' g.status s)
  base_idle words g q q' s b pass is same =
      let at : g.of q'.number ≡ q = ap g.of same.rest.number ∙ is in
      let low : q'.number < z.passes = subst (λ (p : ℕ). p < z.passes) (sym same.rest.number) pass in
      let walk : q'.walk ≡ (g.of q'.number).walk = same.rest.walk ∙ sym (ap (λ v. v.walk) at) in
      let frontier : q'.frontier ≡ (g.of q'.number).frontier = same.rest.frontier ∙ sym (ap (λ v. v.frontier) at) in
      let slots : (i : ℕ) → slot q' i ≡ slot (g.of q'.number) i = λ i. ap (λ (l : List WalkSlot). get_or l i blank) walk in
      let guards : (j : ℕ) → guarding q' j ≡ guarding (g.of q'.number) j = λ j. ap (λ (l : List ℕ). get_or l j 0) frontier in
      let used : SameUsed z g.status words words = content_used z g.status words words (same_content z words) in
      base_after words words g q' s b (same_content z words) low
      record {
        owned = same.owned ∙ sym (ap (λ v. v.owned) at);
        retired_are = same.rest.retired_are ∙ sym (ap (λ v. v.retired) at);
        chains = same.rest.chains ∙ sym (ap (λ v. v.chains) at);
      }
      (λ n p j number in_hand. refl)
      (hazards_after z g.of q'.number q' words words g.status used b.hazards
      (ap (λ (l : List WalkSlot). length l) walk ∙ b.hazards.five q'.number low) (ap (λ (l : List ℕ). length l) frontier
      ∙ b.hazards.four q'.number low)
      (λ r i below other five. refl) (λ i five. b.hazards.walks q'.number i low five ∙ sym (ap (λ (w : WalkSlot). w.named) (slots i)))
      (λ r j below other four. refl) (λ j four. b.hazards.frontiers q'.number j low four ∙ sym (guards j))
      (λ i five. subst (λ (w : WalkSlot). w.held ≡ true → Held z words g.status w) (sym (slots i)) (b.hazards.held q'.number i low five)))
      (scans_after z g.of q'.number q' sides words words g.status b.two used (same.rest.scan ∙ sym (ap (λ v. v.scan) at))
      (λ i five. subst (λ (w : WalkSlot). w.held ≡ true → Unscanned z g.of q'.number q' i w.named) (sym (slots i))
      (λ on. was_unscanned words g q'.number i b low five on)) b.scans)

  -- what a shape sees of a step that changes no state, no head and no used record
  pub seen_after : (words new : List ℕ) (g : PoolState E A W) (q' : PassState W) (s : LoggedStep E A) → SameUsed z g.status words new
      → s.entry.changes ≡ [] → s.placed ≡ [] → SameSeen z words new g (after_step g q' g.status s)
  seen_after words new g q' s used no_change no_call = record {
    heads = used.heads;
    cells = used.cells;
    attached_on = λ n e. e;
    linked_was = λ n linked. refl;
    used_was = λ n is. is;
    order = record { step = s; is = refl; no_change = no_change; no_call = no_call };
  }

  pub looks_after : (words new : List ℕ) (g : PoolState E A W) (q' : PassState W) (s : LoggedStep E A) → SameUsed z g.status words new
      → s.entry.changes ≡ [] → s.placed ≡ [] → SameOwn (g.of q'.number) q' → LooksSame z words new g (after_step g q' g.status s)
  looks_after words new g q' s used no_change no_call own = record {
    seen = seen_after words new g q' s used no_change no_call;
    passes = λ p low. put_each (λ (p : ℕ) (q : PassState W). SameOwn (g.of p) q) g.of q'.number q' own (λ r other. same_own (g.of r)
        (g.of r) refl refl) p;
  }

  pub clears_looks : (forget : ℕ → W → W) (words new : List ℕ) (g : PoolState E A W) (q' : PassState W) (i : ℕ) (s : LoggedStep E A)
      → SameUsed z g.status words new → s.entry.changes ≡ [] → s.placed ≡ [] → q'.number < z.passes → i < 5
      → Clears forget i (g.of q'.number) q'
      → Cleared forget z words new g (after_step g q' g.status s) q'.number i
  clears_looks forget words new g q' i s used no_change no_call low five here = record {
    pass = low;
    word = five;
    seen = seen_after words new g q' s used no_change no_call;
    others = λ r below other. same_own (g.of r) (put g.of q'.number q' r) (ap (λ v. v.own) (put_else g.of q'.number q' r other))
        (ap (λ v. v.walk) (put_else g.of q'.number q' r other));
    here = subst (Clears forget i (g.of q'.number)) (sym (put_here g.of q'.number q')) here;
  }

-- a load writes back what it found
pub loaded : (P : List ℕ → Type 0) (words : List ℕ) (place : ℕ) → P words → P (set words place (get_or words place 0))
loaded P words place p = subst P (sym (set-get_or words place 0)) p

module _ {E A W : Type 0} (sides : ℕ) (opens : Sizes → List ℕ) (addition : Sizes → List ℕ → PoolState E A W → Type 0) where
  -- A load keeps the rule where the facts hold of the words as they are.
  pub load_keeps : (kind place : ℕ) (z : Sizes) (words : List ℕ) (g : PoolState E A W) (old known : PassState W) (status : ℕ
      → RecordState) (changes : List E) (placed : List A)
      → known.number ≡ old.number → known.sizes ≡ z
      → Base sides z words (after_step g known status (entry kind place (get_or words place 0)
      (get_or words place 0) changes placed g.order known))
      → addition z words (after_step g known status (entry kind place (get_or words place 0)
      (get_or words place 0) changes placed g.order known))
      → KeepsRule sides opens addition kind place (get_or words place 0) (get_or words place 0) z words g old known status changes placed
  load_keeps kind place z words g old known status changes placed number sizes base added =
      let g' : PoolState E A W = after_step g known status (entry kind place (get_or words place 0)
      (get_or words place 0) changes placed g.order known) in record {
        number = number;
        sizes = sizes;
        base = loaded (λ (ws : List ℕ). Base sides z ws g') words place base;
        added = loaded (λ (ws : List ℕ). addition z ws g') words place added;
      }

  -- A load of any word may tell nothing and change nothing of what is known.
  pub idle_keeps : KeptAlike sides addition → (kind place : ℕ) (z : Sizes) (words : List ℕ) (g : PoolState E A W) (q : PassState W)
      → Base sides z words g → addition z words g
      → q.number < z.passes → g.of q.number ≡ q → q.sizes ≡ z
      → KeepsRule sides opens addition kind place (get_or words place 0) (get_or words place 0) z words g q q g.status [] []
  idle_keeps alike kind place z words g q b add pass is sizes =
      let e : LoggedStep E A = entry kind place (get_or words place 0) (get_or words place 0) [] [] g.order q in
      let same : SameBase q q = record {
        rest = record { number = refl; sizes = refl; retired_are = refl; walk = refl; frontier = refl; chains = refl; scan = refl };
        owned = refl;
      } in
      let b' : Base sides z words (after_step g q g.status e) = base_idle sides z words g q q e b pass is same in
      load_keeps kind place z words g q q g.status [] [] refl sizes b'
      (alike z words words g (after_step g q g.status e) b b'
      (looks_after sides z words words g q e (content_used z g.status words words (same_content z words)) refl refl
      (same_own (g.of q.number) q (sym (ap (λ v. v.own) is)) (sym (ap (λ v. v.walk) is)))) add)
