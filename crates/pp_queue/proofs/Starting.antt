-- The passes of a queue as it starts.
use Rattle.std.proofs.Common.{◌≡◌, ℕ, false, List, [], refl, sym, ap, ap₂, ◌∙◌, subst}
use Rattle.atomic_table.specs.declared.shared.Seat.{Seat}
use Rattle.pp_link.specs.declared.layout.Sizes.{Sizes}
use Rattle.pp_rule.specs.Opening.{dealt, share_of, start_of, numbers_from}
use Rattle.pp_rule.specs.Orders.{log_of, made_by, placed_by, entries_of}
use Rattle.pp_rule.specs.Steps.{alone}
use Rattle.pp_base.specs.Passes.{known, view}
use Rattle.pp_queues.specs.Calls.{QueuePassView, queue_view}
use Rattle.pp_queues.specs.Queues.{QueueView, nobody}
use Rattle.pp_queues.specs.Turns.{StandsThen}

-- nothing was seen and no call was placed
none_stand : (z : Sizes) (k : ℕ) → StandsThen (alone [] (dealt 1 nobody z k))
unfolding log_of placed_by entries_of
none_stand z k = record { each = λ n s e. cc; rising = λ i j s t _ e _. cc; all = refl }

pub starts_standing : (s : Seat Unit QueueView) (z : Sizes) (k : ℕ) → s.me ≡ (alone [] (dealt 1 nobody z k), [])
    → StandsThen (view s)
starts_standing s z k e = subst StandsThen (sym (ap (λ m. m.0) e)) (none_stand z k)

-- what contracts see of a pass as its queue starts
abbrev pub new_view : Sizes → ℕ → QueuePassView
new_view z c = record {
  caller = c;
  seen = [];
  mine = [];
  steps = [];
  order = [];
  free = numbers_from (start_of 1 z c) (share_of 1 z c);
  retired_are = [];
  chains = 0;
  share = share_of 1 z c;
}

new_seen : (z : Sizes) (k : ℕ) → queue_view (alone [] (dealt 1 nobody z k)) (numbers_from (start_of 1 z k) (share_of 1 z k))
    (share_of 1 z k) ≡ new_view z k
unfolding log_of placed_by made_by entries_of dealt
new_seen z k = refl

pub starts_new : (s : Seat Unit QueueView) (z : Sizes) (k : ℕ) (free : List ℕ) (share : ℕ)
    → s.me ≡ (alone [] (dealt 1 nobody z k), [])
    → free ≡ numbers_from (start_of 1 z k) (share_of 1 z k) → share ≡ share_of 1 z k
    → queue_view (view s) free share ≡ new_view z k
starts_new s z k free share e free_is share_is = ap (λ (v : QueueView). queue_view v free share) (ap (λ m. m.0) e)
    ∙ (ap₂ (λ (f : List ℕ) (n : ℕ). queue_view (alone [] (dealt 1 nobody z k)) f n) free_is share_is ∙ new_seen z k)

-- it has left no record behind head 1
pub starts_up : (s : Seat Unit QueueView) (z : Sizes) (k : ℕ) → s.me ≡ (alone [] (dealt 1 nobody z k), [])
    → (known s).own.behind ≡ false
unfolding dealt
starts_up s z k e = ap (λ m. m.0.known.own.behind) e
