-- A queue meets the laws of a shape.
use Rattle.std.proofs.Common.{◌≡◌, ℕ, zero, suc, ◌+◌, ◌*◌, ◌≤◌, List, [], length, refl}
use Rattle.std.proofs.Common.{sym, ap, ◌∙◌, subst, arith}
use Rattle.std.proofs.Math.Bool.{false≢true}
use Rattle.std.proofs.Math.Decide.{ℕ_discrete}
use mathlib.Core.Logic.{dite}
use Rattle.pp_link.specs.declared.layout.Sizes.{Sizes}
use Rattle.pp_link.specs.Links.{target}
use Rattle.pp_link.specs.Places.{IsNumber}
use Rattle.pp_rule.specs.Lists.{IsIn}
use Rattle.pp_rule.specs.Orders.{log_of, placed_by}
use Rattle.pp_rule.specs.Views.{slot}
use Rattle.pp_rule.specs.States.{RecordState, owned, IsUsed}
use Rattle.pp_rule.specs.Opening.{dealt, opening_words}
use Rattle.pp_rule.specs.Laws.{Freezes, HeadsOpen, LinksOpen, MetAtOpening, KeptAlike, KeptCleared, KeptInvalid, Chained}
use Rattle.pp_rule.specs.Laws.{MayDetach, KeptDetached}
use Rattle.pp_rule.specs.Alone.{HasOwnChanges}
use Rattle.pp_rule.specs.Reached.{Reached, ReachesAll}
use Rattle.pp_rule.specs.Reached.Reached.{by_head, by_link}
use Rattle.pp_link.specs.Words.{head_word, cell_word}
use Rattle.pp_queues.proofs.Lining.{leads_to}
use Rattle.pp_rule.proofs.Put.{in_nil}
use Rattle.pp_rule.proofs.OpeningWords.{opening_head, opening_field}
use Rattle.pp_rule.proofs.OpeningOrder.{no_log, no_placed}
use Rattle.pp_queues.specs.declared.calls.QueueChange.{QueueChange}
use Rattle.pp_queues.specs.declared.calls.QueuePlaced.{QueuePlaced}
use Rattle.pp_queues.specs.declared.own.QueueOwn.{QueueOwn}
use Rattle.pp_queues.specs.Queue.{items_of, IsSound}
use Rattle.pp_queues.specs.Lines.{heap, Lined}
use Rattle.pp_queues.specs.Queues.{QueuePass, QueueStep, Calls, Queues, queue_frozen, queue_forget, nobody, queue_chain}
use Rattle.pp_queues.specs.Queues.{NeverDetaches, queue_head, queue_field}
use Rattle.pp_queues.specs.Contents.{queue_caller}
use Rattle.pp_queues.proofs.Keeping.{queues_alike, queues_cleared, queues_invalidated, stood_nowhere}

pub queue_sided : (1 ≤ 1) × (1 ≤ 2)
queue_sided = (omega arith, omega arith)

pub queue_fits : 1 ≤ 8
queue_fits = omega arith

pub queue_heads_open : HeadsOpen 1 queue_head
queue_heads_open h = record { small = omega arith; valid = refl; to = omega arith }

pub queue_links_open : LinksOpen 1 1 queue_field
queue_links_open n side low high lt = record { small = omega arith; valid = refl; to = omega arith }

pub queue_freezes : Freezes queue_frozen
queue_freezes w e = absurd (false≢true e)

fresh_own : (z : Sizes) (p : ℕ) → (dealt 1 nobody z p).own ≡ nobody
unfolding dealt
fresh_own z p = refl

not_owned : (s : RecordState) (p : ℕ) → s ≡ owned p → IsUsed s → ⊥
not_owned s p e u = subst IsUsed e u

pub queue_opened : MetAtOpening 1 Queues 1 queue_head queue_field nobody
queue_opened z g within low b o = let words : List ℕ = opening_words 1 queue_head queue_field z in
    let log = no_log g.order o.order in let eight = within.some_records in let one_head = within.some_heads in record {
      sound = subst IsSound (sym log) (λ p c e. cc);
      own_changes = λ s i. absurd (in_nil s (subst (λ (l : List QueueStep). IsIn s l) o.order i));
      at = λ i. 1;
      lined = subst (λ (log : List QueueChange). Lined z (heap z words g.status) (λ i. 1) (items_of log)) (sym log) record {
        front = opening_head 1 queue_head queue_field z 0 (omega arith);
        each = λ i le. ((omega arith, omega arith), o.sentinels_are 1 (omega arith, omega arith) (omega arith));
        next = λ i lt. absurd (omega arith);
        last = opening_field 1 queue_head queue_field z 1 2 (omega arith) (omega arith) (omega arith);
        values = λ i lt. absurd (omega arith);
        all = λ n is_n st. (0, (omega arith, sym (one n is_n (subst IsUsed (sym st) tt))));
        once = λ i j li lj e. omega arith;
        ended = λ n is_n u nil. ap g.status (one n is_n u) ∙ o.sentinels_are 1 (omega arith, omega arith) (omega arith);
        back = λ two. (0, (omega arith, omega arith, opening_head 1 queue_head queue_field z 1 (omega arith)));
      };
      each = λ p lt. subst (λ (log : List QueueChange). Calls z (heap z words g.status) log p (slot (g.of p)) (g.of p).own
          (placed_by p g.order)) (sym log)
          (subst (λ (own : QueueOwn). Calls z (heap z words g.status) [] p (slot (g.of p)) own (placed_by p g.order))
          (sym (ap (λ (q : QueuePass). q.own) (o.of p lt) ∙ fresh_own z p))
          (subst (λ (mine : List QueuePlaced). Calls z (heap z words g.status) [] p (slot (g.of p)) nobody mine)
          (sym (no_placed p g.order o.order)) record {
            stands = record { each = λ n s e. cc; rising = λ i j s t _ e _. cc; all = refl };
            since = λ bad. absurd (false≢true bad);
            earlier = λ bad. absurd (false≢true bad);
            stood = λ two. stood_nowhere (heap z words g.status) (slot (g.of p)) nobody refl;
            sole = λ _ two. record {
              last = λ _. let led : head_word words z 1 ≡ 16 = opening_head 1 queue_head queue_field z 1 (omega arith) in
                  ap (λ (h : ℕ). target (cell_word words z (target h) 2)) led
                  ∙ ap target (opening_field 1 queue_head queue_field z 1 2 (omega arith) (omega arith) (omega arith));
              front = λ bad. absurd (omega arith);
            };
          }));
    }
  where
    -- the first record alone is used
    one : (n : ℕ) → IsNumber z n → IsUsed (g.status n) → n ≡ 1
    one n is_n u = dite (ℕ_discrete n 1) (λ e. e) (λ ne. let some : 1 ≤ n = is_n.0 in
        let free = o.others_are n is_n (omega arith) in
        absurd (not_owned (g.status n) free.0 free.1 u))

pub queue_alike : KeptAlike 1 Queues
queue_alike z words words' g g' b b' same add = queues_alike z words words' g g' b b' same add

pub queue_clears : KeptCleared 1 Queues queue_forget
queue_clears z words words' g g' p i b b' cleared add = queues_cleared z words words' g g' b b' p i cleared add

pub queue_invalidates : KeptInvalid 1 Queues
queue_invalidates z words words' g g' n side b b' one i add = queues_invalidated z words words' g g' b b' n side one i add

pub queue_is_chained : Chained 1 Queues queue_chain NeverDetaches
queue_is_chained z words g q place guard first new b add pass is may hit = absurd may

pub queue_may_detach : MayDetach 1 Queues queue_chain NeverDetaches
queue_may_detach z words g q place guard first new b add pass is may four named unused hit = absurd may

pub queue_kept_detached : KeptDetached 1 Queues queue_chain NeverDetaches
queue_kept_detached z words g g' q place guard first new b b' pass is may hit may_go d add = absurd may

pub queue_own_changes : HasOwnChanges Queues queue_caller
queue_own_changes z words g l = l.own_changes

-- Head 0 leads to the dummy, and each attached record to the next one.
pub queue_reached : ReachesAll 1 Queues
queue_reached z words g n b l number st = let y = l.lined.all n number st in let le = y.1.0 in
    subst (Reached 1 z words) y.1.1 (along_line y.0 le)
  where
    along_line : (i : ℕ) → i ≤ length (items_of (log_of g.order)) → Reached 1 z words (l.at i)
    along_line zero le = by_head 0 (let one = b.within.some_heads in
        omega arith) (leads_to (head_word words z 0) (l.at 0) l.lined.front)
    along_line (suc i) le = let next : i + 1 ≡ suc i = omega arith in
        by_link (l.at i) 0 (l.lined.each i (omega arith)).0 (omega arith)
        (leads_to (cell_word words z (l.at i) 2) (l.at (suc i)) (l.lined.next i (omega arith) ∙ ap (λ (k : ℕ). 16 * l.at k) next))
        (along_line i (omega arith))
