-- A store to a field of a private record.
use Rattle.std.proofs.Common.{◌≡◌, ◌≢◌, ℕ, zero, suc, ◌<◌, Bool, true, cond, eqb, List, [], ◌∷◌, map, length, get_or, set}
use Rattle.std.proofs.Common.{refl, sym, ap, ◌∙◌, subst, ⊎_elim, arith, eq-eqb, ne_eqb}
use Rattle.std.proofs.lemmas.List.{length-set}
use Rattle.std.proofs.Math.Bool.{false≢true}
use Rattle.std.proofs.Math.Decide.{ℕ_discrete}
use mathlib.Core.Logic.{dite}
use mathlib.Core.Option.{some, some-injective}
use lib.ListN.{get_elem?}
use Rattle.atomic_table.specs.Table.{Me, Allows}
use Rattle.atomic_table.proofs.Lists.{at_set}
use Rattle.pp_link.specs.declared.layout.Sizes.{Sizes}
use Rattle.pp_link.specs.Places.{IsNumber, cell_place}
use Rattle.pp_link.specs.Words.{cell_word, CellStored}
use Rattle.pp_link.proofs.Stores.{cell_stored}
use Rattle.pp_rule.specs.Lists.{IsIn}
use Rattle.pp_rule.specs.Orders.{LoggedStep, write_step}
use Rattle.pp_rule.specs.Views.{WalkSlot, PrivateRecord, PassState, SeatView, slot}
use Rattle.pp_rule.specs.States.{owned, IsUsed, PoolState, Held, attached}
use Rattle.pp_rule.specs.Rule.{Reads, number_of, Base}
use Rattle.pp_rule.specs.Ties.{Holds}
use Rattle.pp_rule.specs.Steps.{entry, IsAlone, MadeQuietStep, with_private, wrote}
use Rattle.pp_rule.specs.Laws.{KeptAlike}
use Rattle.pp_rule.proofs.Slots.{same_own}
use Rattle.pp_rule.proofs.Stepping.{after_step, allows, cell_aside}
use Rattle.pp_rule.proofs.Frames.{SameUsed, held_after, reads_after, links_after, numbers_after, privates_after, hazards_after}
use Rattle.pp_rule.proofs.Frames.{chains_after}
use Rattle.pp_rule.proofs.Frames.{shelves_after, Unscanned, scans_after}
use Rattle.pp_rule.proofs.Keeping.{shelf_scope, hand_scope, was_unscanned, looks_after}

-- the numbers stay where an entry of the list gets another of the same number
pub numbers_set : (ds : List PrivateRecord) (k : ℕ) (d e : PrivateRecord) → get_elem? ds k ≡ some d → e.number ≡ d.number
    → map number_of (set ds k e) ≡ map number_of ds
numbers_set [] k d e at same = refl
numbers_set (c ∷ ds) zero d e at same = ap (λ n. n ∷ map number_of ds) (same ∙ ap number_of (sym (some-injective c d at)))
numbers_set (c ∷ ds) (suc k) d e at same = ap (λ ns. c.number ∷ ns) (numbers_set ds k d e at same)

-- the words of a private record of which one field was stored
pub reads_wrote : (z : Sizes) (words new : List ℕ) (d : PrivateRecord) (f x : ℕ) → IsNumber z d.number
    → CellStored z words new d.number f x → Reads z words d
    → Reads z new (wrote f x d)
reads_wrote z words new d f x number stored r = record {
  key = field 0 d.key (omega arith) r.key;
  value = field 1 d.value (omega arith) r.value;
  left = field 2 d.left (omega arith) r.left;
  right = field 3 d.right (omega arith) r.right;
  high = field 4 d.high (omega arith) r.high;
}
  where
    field : (g v : ℕ) → g < 5 → cell_word words z d.number g ≡ v → cell_word new z d.number g ≡ cond (eqb f g) x v
    field g v four was = dite (ℕ_discrete f g)
        (λ e. subst (λ (k : ℕ). cell_word new z d.number k ≡ x) e stored.here ∙ ap (λ (b : Bool). cond b x v) (sym (eq-eqb f g e)))
        (λ ne. stored.cells d.number g number four (λ same. ne (sym same.1)) ∙ (was ∙ ap (λ (b : Bool). cond b x v) (sym (ne_eqb f g ne))))

module _ {E A W : Type 0} (sides : ℕ) (z : Sizes) where
  -- A field of a private record of the pass is stored. No used record has that word, and no other private record.
  pub base_private_stored : (words : List ℕ) (g : PoolState E A W) (q : PassState W) (k f x : ℕ) (d : PrivateRecord) (s : LoggedStep E A)
      → Base sides z words g
      → q.number < z.passes → g.of q.number ≡ q → get_elem? q.owned k ≡ some d → f < 5
      → SameUsed z g.status words (set words (cell_place z d.number f) x)
      × Base sides z (set words (cell_place z d.number f) x) (after_step g (with_private k (wrote f x d) q) g.status s)
  base_private_stored words g q k f x d s b pass is at four =
      let p : ℕ = q.number in
      let q' : PassState W = with_private k (wrote f x d) q in
      let new : List ℕ = set words (cell_place z d.number f) x in
      let owned_is : (g.of p).owned ≡ q.owned = ap (λ v. v.owned) is in
      let mine = b.numbers.owned_to p d pass (k, ap (λ (l : List PrivateRecord). get_elem? l k) owned_is ∙ at) in
      let stored : CellStored z words new d.number f x = cell_stored z words x b.wide d.number f mine.0 four in
      let used : SameUsed z g.status words new = record {
        heads = stored.heads;
        cells = λ n h number lt is_used. stored.cells n h number lt (λ same. subst IsUsed (ap g.status same.0 ∙ mine.1) is_used);
      } in
      let walk : q.walk ≡ (g.of p).walk = ap (λ v. v.walk) (sym is) in (
        used,
        record {
          within = b.within;
          two = b.two;
          wide = length-set words (cell_place z d.number f) x ∙ b.wide;
          numbers = numbers_after z g.of p q' g.status (numbers_set q.owned k d (wrote f x d) at refl ∙ sym (ap (map number_of) owned_is))
              (ap (λ v. v.retired) (sym is)) b.numbers;
          privates = privates_after z g.of p q' words new
              (λ r c low other i. let his = b.numbers.owned_to r c low i in reads_after z words new c
              (λ h lt. stored.cells c.number h his.0 lt (λ same. let bad : owned r ≡ owned p = sym his.1 ∙
              (ap g.status same.0 ∙ mine.1) in other cc)) (b.privates.reads r c low i))
              (λ c i. ⊎_elim
              (λ (here : (i.0 ≡ k) × (wrote f x d ≡ c)). subst (Reads z new) here.1 (reads_wrote z words new d f x mine.0 stored
              (b.privates.reads p d pass (k, ap (λ (l : List PrivateRecord). get_elem? l k) owned_is ∙ at))))
              (λ (there : (i.0 ≢ k) × (get_elem? q.owned i.0 ≡ some c)). let was : IsIn c (g.of p).owned = (
                i.0,
                ap (λ
                    (l : List PrivateRecord). get_elem? l i.0) owned_is ∙ there.1,
              ) in
              reads_after z words new c (λ h lt. stored.cells c.number h (b.numbers.owned_to p c pass was).0 lt
              (λ same. there.0 (b.numbers.owned_once p pass i.0 k c d was.1 (ap (λ
              (l : List PrivateRecord). get_elem? l k) owned_is ∙ at) same.0))) (b.privates.reads p c pass was))
              (at_set q.owned k i.0 (wrote f x d) c i.1));
          hazards = hazards_after z g.of p q' words new g.status used b.hazards (ap (λ (l : List WalkSlot). length l) walk
              ∙ b.hazards.five p pass)
              (ap (λ v. length v.frontier) (sym is) ∙ b.hazards.four p pass) (λ r i low other five. stored.walks r i low five)
              (λ i five. stored.walks p i pass five ∙ (b.hazards.walks p i pass five ∙ ap (λ (v : PassState W). (slot v i).named) is))
              (λ r j low other four. stored.frontiers r j low four)
              (λ j four. stored.frontiers p j pass four ∙ (b.hazards.frontiers p j pass four
              ∙ ap (λ (v : PassState W). get_or v.frontier j 0) is))
              (λ i five on. held_after z words new g.status (slot q i) used
              (subst (λ (v : PassState W). (slot v i).held ≡ true
              → Held z words g.status (slot v i)) is (b.hazards.held p i pass five) on));
          links = links_after z sides words new g.status b.two used
              (λ n r j number hand. let scope = hand_scope sides z words g b n r j hand number in stored.frontiers r j scope.0 scope.1)
              b.links;
          shelves = shelves_after z words new g.status (shelf_scope sides z words g b) stored.shelves b.shelves;
          chains = chains_after z g.of p q' sides words new g.status b.two used (ap (λ v. v.chains) (sym is)) b.chains;
          scans = scans_after z g.of p q' sides words new g.status b.two used (ap (λ v. v.scan) (sym is))
              (λ i five. subst (λ (v : PassState W). (slot v i).held ≡ true → Unscanned z g.of p v i (slot v i).named) is
              (was_unscanned sides z words g p i b pass five)) b.scans;
        },
      )

module _ {E A W : Type 0} (sides : ℕ) (opens : Sizes → List ℕ) (addition : Sizes → List ℕ → PoolState E A W → Type 0) where
  -- A field of a private record may be stored.
  pub writes_private : KeptAlike sides addition → (z : Sizes) (slots id place k f x : ℕ) (d : PrivateRecord) (me : Me Unit
      (SeatView E A W)) → IsAlone me
      → get_elem? me.0.known.owned k ≡ some d → f < 5 → place ≡ cell_place z d.number f
      → Allows (Holds sides opens addition z) slots id me place (λ _. x)
      (λ _ m'. (m'.1 ≡ []) × MadeQuietStep write_step place x x (with_private k (wrote f x d) me.0.known) me.0 m'.0)
  writes_private alike z slots id place k f x d me lone at four at_place = let q : PassState W = me.0.known in
      let q' : PassState W = with_private k (wrote f x d) q in
      allows sides opens addition z slots id place write_step me (λ _. x) (λ _. x)
      (λ _ m'. (m'.1 ≡ []) × MadeQuietStep write_step place x x q' me.0 m'.0) lone (λ m bad. absurd (false≢true (sym bad)))
      (λ m yes. (
        (λ _. refl),
        λ words g b low is.
            let own = b.numbers.owned_to q.number d low (subst (λ (v : PassState W). IsIn d v.owned) (sym is) (k, at)) in
            cell_aside z g d.number f place own.0 four at_place
            (λ st. let bad : owned q.number ≡ attached = sym own.1 ∙ st in cc),
      )) (λ m _. refl)
      (λ words g b add pass is sizes fits.
      let e : LoggedStep E A = entry write_step place x x [] [] g.order q' in
      let new : List ℕ = set words place x in
      let both : SameUsed z g.status words new × Base sides z new (after_step g q' g.status e) =
      subst (λ (k : ℕ). SameUsed z g.status words (set words k x) × Base sides z (set words k x) (after_step g q' g.status e))
      (sym at_place)
      (base_private_stored sides z words g q k f x d e b pass is at four) in record {
        known = q';
        status = g.status;
        changes = [];
        placed = [];
        keeps_rule = record {
          number = refl;
          sizes = sizes;
          base = both.1;
          added = alike z words new g (after_step g q' g.status e) b both.1 (looks_after sides z words new g q' e both.0 refl refl
              (same_own (g.of q.number) q' (ap (λ v. v.own) (sym is)) (ap (λ v. v.walk) (sym is)))) add;
        };
        tells = λ v is_now made. (refl, made);
      })
