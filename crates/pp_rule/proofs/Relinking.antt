-- The exchange of a link of a head or of an attached record for a word that leads on too.
use Rattle.std.proofs.Common.{◌≡◌, ◌⊎◌, ℕ, ◌+◌, ◌<◌, List, set}
use Rattle.std.proofs.Common.{sym, ap, ap₂, ◌∙◌, subst, arith}
use Rattle.std.proofs.lemmas.List.{length-set}
use Rattle.pp_link.specs.declared.layout.Sizes.{Sizes}
use Rattle.pp_link.specs.Links.{target, invalid_bit}
use Rattle.pp_link.specs.Places.{IsNumber}
use Rattle.pp_link.specs.Words.{cell_word}
use Rattle.pp_rule.specs.Lists.{IsIn}
use Rattle.pp_rule.specs.Orders.{LoggedStep}
use Rattle.pp_rule.specs.Views.{halves, WalkSlot, PassState, slot}
use Rattle.pp_rule.specs.States.{attached, in_hand, retired, owned, PoolState, IsSmall, Keeps, SameTarget, Leads, Leaves, Held}
use Rattle.pp_rule.specs.Rule.{PrivateWords, Hazards, Links, Chains, Scans, Base}
use Rattle.pp_rule.specs.Changes.{SameBase, Relinks}
use Rattle.pp_rule.proofs.FreeLinks.{LinkStored, link_stored, head_has, cell_has}
use Rattle.pp_rule.proofs.Stepping.{after_step}
use Rattle.pp_rule.proofs.Frames.{reads_after, shelves_after}
use Rattle.pp_rule.proofs.Keeping.{shelf_scope, hand_scope, base_idle}
use Rattle.pp_rule.proofs.Chained.{leaves_on}

-- All facts of every pool after that exchange, as long as no pass changes.
module _ {E A W : Type 0} (sides : ℕ) (z : Sizes) (words : List ℕ) (g : PoolState E A W) (place new : ℕ) (b : Base sides z words g)
    (r : Relinks z g place new) where
  abbrev after : List ℕ
  after = set words place new

  stored : LinkStored z words g place new
  stored = link_stored z words g place new b.wide r.place_is

  -- links in hand and retired ones stay
  hand_link : (n side p j : ℕ) → IsNumber z n → side < sides → g.status n ≡ in_hand p j
      → cell_word after z n (2 + side) ≡ cell_word words z n (2 + side)
  hand_link n side p j number lt state = let most = b.two in stored.unattached n (2 + side)
      (in_hand p j) number (omega arith) state (λ (e : in_hand p j ≡ attached). absurd cc)

  spent_link : (n side p : ℕ) → IsNumber z n → side < sides → g.status n ≡ retired p
      → cell_word after z n (2 + side) ≡ cell_word words z n (2 + side)
  spent_link n side p number lt state = let most = b.two in stored.unattached n (2 + side)
      (retired p) number (omega arith) state (λ (e : retired p ≡ attached). absurd cc)

  privates_relinked : PrivateWords z after g.of
  privates_relinked = record {
    reads = λ p d low i. let his = b.numbers.owned_to p d low i in reads_after z words after d
        (λ f four. stored.unattached d.number f (owned p) his.0 four his.1
        (λ (e : owned p ≡ attached). absurd cc)) (b.privates.reads p d low i);
  }

  hazards_relinked : Hazards z after g.of g.status
  hazards_relinked = record {
    five = b.hazards.five;
    four = b.hazards.four;
    walks = λ p i low lt. stored.walks p i low lt ∙ b.hazards.walks p i low lt;
    frontiers = λ p j low lt. stored.frontiers p j low lt ∙ b.hazards.frontiers p j low lt;
    held = λ p i low five on. let w : WalkSlot = slot (g.of p) i in let h : Held z words g.status w = b.hazards.held p i low five on in
        record {
          number = h.number;
          used = h.used;
          key = stored.fields w.named 0 h.number (omega arith) ∙ h.key;
          value = ap₂ halves (stored.fields w.named 1 h.number (omega arith)) (stored.high w.named h.number) ∙ h.value;
          learnt = λ l k. let was = h.learnt l k in (
            was.0,
            subst (Keeps l.1) (sym (stored.other_cell w.named (2 + l.0)
                (r.place_is.unlearnt p i l low five on k))) was.1,
            was.2,
          );
        };
  }

  links_relinked : Links sides z after g.status
  links_relinked = record {
    heads = λ h low. head_has z words g place new stored (Leads z g.status) h r.leads (b.links.heads h low);
    linked = λ n side number lt state. cell_has z words g place new stored (Leads z g.status) n (2 + side) r.leads
        (b.links.linked n side number lt state);
    hand = λ n side p j number lt state. let scope = hand_scope sides z words g b n p j state number in
        subst (Leaves z after g.status p j) (sym (hand_link n side p j number lt state))
        (leaves_on z words after g.status (cell_word words z n (2 + side)) p j
        (stored.frontiers p j scope.0 scope.1) (b.links.hand n side p j number lt state));
    spent = λ n side p number lt state. subst (λ (w : ℕ). IsSmall w × (invalid_bit w ≡ 1)) (sym (spent_link n side p number lt state))
        (b.links.spent n side p number lt state);
  }

  chains_relinked : Chains sides z after g.of g.status
  chains_relinked = record {
    guard = b.chains.guard;
    once = b.chains.once;
    members = b.chains.members;
    members_once = b.chains.members_once;
    home = b.chains.home;
    valid = λ p n side c low i member lt. let m = b.chains.members p n c low i member in
        subst (λ (w : ℕ). (invalid_bit w ≡ 1) ⊎ IsIn (n, side) c.valid) (sym (hand_link n side p c.guard m.0 lt m.1))
        (b.chains.valid p n side c low i member lt);
    links = λ p c l low i link. let was = b.chains.links p c l low i link in let m = b.chains.members p l.number c low i was.0 in
        (was.0, was.1, subst (SameTarget l.word) (sym (hand_link l.number l.side p c.guard m.0 was.1 m.1)) was.2);
  }

  scans_relinked : Scans sides z after g.of g.status
  scans_relinked = record {
    left = b.scans.left;
    left_once = b.scans.left_once;
    fronts = λ p n t j m side low i read number lt state valid to. let e = hand_link m side t j number lt state in
        b.scans.fronts p n t j m side low i read number lt state (ap invalid_bit (sym e) ∙ valid) (ap target (sym e) ∙ to);
    walks = b.scans.walks;
  }

  relinked : Base sides z after g
  relinked = record {
    within = b.within;
    two = b.two;
    wide = length-set words place new ∙ b.wide;
    numbers = b.numbers;
    privates = privates_relinked;
    hazards = hazards_relinked;
    links = links_relinked;
    shelves = shelves_after z words after g.status (shelf_scope sides z words g b)
        (stored.shelves) b.shelves;
    chains = chains_relinked;
    scans = scans_relinked;
  }

-- A link of a head or of an attached record, which nobody learnt as frozen, gets another word that leads on.
module _ {E A W : Type 0} (sides : ℕ) (z : Sizes) (words : List ℕ) (g : PoolState E A W) (q q' : PassState W) (place new : ℕ)
    (s : LoggedStep E A) where
  pub base_relinked : Base sides z words g → q.number < z.passes → g.of q.number ≡ q → SameBase q q' → Relinks z g place new
      → Base sides z (set words place new) (after_step g q' g.status s)
  base_relinked b pass is same r = base_idle sides z (set words place new) g q q' s (relinked sides z words g place new b r) pass is same
