-- A list meets the laws of a shape.
use Rattle.std.proofs.Common.{◌≡◌, ◌≢◌, ◌%◌, ℕ, ◌≤◌, List, [], refl}
use Rattle.std.proofs.Common.{sym, ap, ◌∙◌, subst, arith}
use Rattle.std.proofs.Math.Bool.{false≢true}
use Rattle.std.proofs.lemmas.Bool.{eqb-true}
use Rattle.pp_link.specs.declared.layout.Sizes.{Sizes}
use Rattle.pp_link.specs.Links.{target, flag_bit}
use Rattle.pp_link.specs.Places.{IsNumber}
use Rattle.pp_model.specs.declared.Change.{Change}
use Rattle.pp_model.specs.declared.Placed.{Placed}
use Rattle.pp_model.specs.History.{contents_of, Sound}
use Rattle.pp_rule.specs.Lists.{IsIn}
use Rattle.pp_rule.specs.Orders.{placed_by}
use Rattle.pp_rule.specs.Views.{slot}
use Rattle.pp_rule.specs.States.{RecordState, attached, owned, IsUsed}
use Rattle.pp_rule.specs.Opening.{dealt}
use Rattle.pp_rule.specs.Alone.{HasOwnChanges}
use Rattle.pp_rule.specs.Laws.{Freezes, HeadsOpen, LinksOpen, MetAtOpening, KeptAlike, KeptCleared, KeptInvalid, Chained}
use Rattle.pp_rule.specs.Laws.{MayDetach, KeptDetached}
use Rattle.pp_rule.proofs.Put.{in_nil}
use Rattle.pp_rule.proofs.OpeningWords.{opening_head}
use Rattle.pp_rule.proofs.OpeningOrder.{no_log, no_placed}
use Rattle.pp_lists.specs.declared.own.ListOwn.{ListOwn}
use Rattle.pp_lists.specs.Walks.{heap, Source, at_head, at_record, word_at, IsLive, bucket, bucket_at, Mapped, IsBareAt}
use Rattle.pp_lists.specs.Lists.{ListPass, ListStep, Walks, Lists, list_frozen, list_forget, nobody, list_chain, MayUnlink}
use Rattle.pp_lists.specs.Lists.{list_head, list_field}
use Rattle.pp_lists.proofs.Shaping.{linked_used}
use Rattle.pp_lists.proofs.Keeping.{lists_alike, lists_cleared, lists_invalidated}
use Rattle.pp_lists.proofs.Taking.{list_ordered, list_detaches, list_detached}

pub list_sided : (1 ≤ 1) × (1 ≤ 2)
list_sided = (omega arith, omega arith)

pub list_own_changes : HasOwnChanges Lists (λ (c : Change). c.caller)
list_own_changes z words g l = l.own_changes

pub list_fits : 0 ≤ 8
list_fits = omega arith

pub list_heads_open : HeadsOpen 0 list_head
list_heads_open h = record { small = omega arith; valid = refl; to = omega arith }

pub list_links_open : LinksOpen 1 0 list_field
list_links_open n side low high lt = absurd (omega arith)

pub list_freezes : Freezes list_frozen
list_freezes w e none = let one : flag_bit w ≡ 1 = eqb-true (flag_bit w) 1 e in omega arith

fresh_own : (z : Sizes) (p : ℕ) → (dealt 0 nobody z p).own ≡ nobody
unfolding dealt
fresh_own z p = refl

not_owned : (s : RecordState) (p : ℕ) → s ≡ owned p → IsUsed s → ⊥
not_owned s p e u = subst IsUsed e u

pub list_opened : MetAtOpening 1 Lists 0 list_head list_field nobody
list_opened z g within low b o = let words : List ℕ = Rattle.pp_rule.specs.Opening.opening_words 0 list_head list_field z in
    let log = no_log g.order o.order in record {
      sound = subst Sound (sym log) (λ p c e. cc);
      own_changes = λ s i. absurd (in_nil s (subst (λ (l : List ListStep). IsIn s l) o.order i));
      listed = record {
        rising = λ n is_n lk _ _. absurd (none n is_n (linked_used (g.status n) lk));
        same_list = λ n is_n lk _ _. absurd (none n is_n (linked_used (g.status n) lk));
        marked = λ n is_n u _. absurd (none n is_n u);
        untagged = λ n is_n u. absurd (none n is_n u);
        bare = bare_open;
        once = λ n m is_n _ st _ _. absurd (no_one n is_n st);
        home = nothing_from;
        next = λ s m _ is_m st _ _. absurd (no_one m is_m st);
      };
      mapped = subst (λ (log : List Change). Mapped z (heap z words g.status) (contents_of log)) (sym log)
          record { sorted = tt; pairs = λ n is_n st _. absurd (no_one n is_n st); records = λ k v e. cc };
      each = λ p lt. subst (λ (log : List Change). Walks z (heap z words g.status) log p (slot (g.of p)) (g.of p).own
          (placed_by p g.order)) (sym log)
          (subst (λ (own : ListOwn). Walks z (heap z words g.status) [] p (slot (g.of p)) own (placed_by p g.order))
          (sym (ap (λ (q : ListPass). q.own) (o.of p lt) ∙ fresh_own z p))
          (subst (λ (mine : List Placed). Walks z (heap z words g.status) [] p (slot (g.of p)) nobody mine)
          (sym (no_placed p g.order o.order)) record {
            stands = record { each = λ n s e. cc; rising = λ i j s t _ e _. cc; all = refl };
            since = λ bad. absurd (false≢true bad);
            earlier = λ bad. absurd (false≢true bad);
            stood = record { held = λ bad. absurd (omega arith); right = λ _ bad. absurd (omega arith) };
            gathering = record {
              held = λ bad. absurd (omega arith);
              joined = λ bad. absurd (omega arith);
              intact = λ bad. absurd (omega arith);
            };
          }));
      leaves = record {
        known_to = λ n is_n st _. absurd (no_one n is_n st);
        removed = λ _ p n _ is_n _ st. absurd (no_one n is_n st);
      };
    }
  where
    none : (n : ℕ) → IsNumber z n → IsUsed (g.status n) → ⊥
    none n is_n u = let free = o.others_are n is_n (let one : 1 ≤ n = is_n.0 in omega arith) in
        not_owned (g.status n) free.0 free.1 u

    no_one : (n : ℕ) → IsNumber z n → g.status n ≡ attached → ⊥
    no_one n is_n st = none n is_n (subst IsUsed (sym st) tt)

    bare_open : (s : Source)
        → IsLive z (heap z (Rattle.pp_rule.specs.Opening.opening_words 0 list_head list_field z) g.status) s
        → IsBareAt (heap z (Rattle.pp_rule.specs.Opening.opening_words 0 list_head list_field z) g.status) s
    bare_open (at_head h) live = ap (λ (w : ℕ). w % 16) (opening_head 0 list_head list_field z h live)
    bare_open (at_record n) live = absurd (no_one n live.0 live.1)

    nothing_from : (s : Source)
        → IsLive z (heap z (Rattle.pp_rule.specs.Opening.opening_words 0 list_head list_field z) g.status) s
        → target (word_at (heap z (Rattle.pp_rule.specs.Opening.opening_words 0 list_head list_field z) g.status) s) ≢ 0
        → bucket z.heads ((heap z (Rattle.pp_rule.specs.Opening.opening_words 0 list_head list_field z) g.status).key
        (target (word_at (heap z (Rattle.pp_rule.specs.Opening.opening_words 0 list_head list_field z) g.status) s)))
        ≡ bucket_at z (heap z (Rattle.pp_rule.specs.Opening.opening_words 0 list_head list_field z) g.status) s
    nothing_from (at_head h) live to = absurd (to (ap target (opening_head 0 list_head list_field z h live)))
    nothing_from (at_record n) live to = absurd (no_one n live.0 live.1)

pub list_alike : KeptAlike 1 Lists
list_alike z words words' g g' b b' same add = lists_alike z words words' g g' b b' same add

pub list_clears : KeptCleared 1 Lists list_forget
list_clears z words words' g g' p i b b' cleared add = lists_cleared z words words' g g' b b' p i cleared add

pub list_invalidates : KeptInvalid 1 Lists
list_invalidates z words words' g g' n side b b' one i add = lists_invalidated z words words' g g' b b' n side one i add

pub list_is_chained : Chained 1 Lists list_chain MayUnlink
list_is_chained z words g q place guard first new b add pass is may hit =
    list_ordered z words g q place guard first new b add pass is may hit

pub list_may_detach : MayDetach 1 Lists list_chain MayUnlink
list_may_detach z words g q place guard first new b add pass is may four named unused hit =
    list_detaches z words g q place guard first new b add pass is may hit four named unused

pub list_kept_detached : KeptDetached 1 Lists list_chain MayUnlink
list_kept_detached z words g g' q place guard first new b b' pass is may hit may_go d add =
    list_detached z words g q place guard first new b add pass is may hit g' b' d
