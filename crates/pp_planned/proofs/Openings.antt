-- Callers before their first turn.
use Rattle.std.proofs.Common.{◌≡◌, ◌≢◌, ℕ, zero, suc, ◌-◌, ◌^◌, ◌<◌, ◌≤◌, List, [], ◌∷◌, ◌++◌, length, drop, map, set}
use Rattle.std.proofs.Common.{Option, Some, None}
use Rattle.std.proofs.Common.{refl, sym, ap, ◌∙◌, subst, arith, All, Vec, Global}
use Rattle.std.specs.Prelude.{slice_get, vec_capacity, IfSome}
use Rattle.std.proofs.lemmas.Option.{slice_get_within, get_or_from_slice_get}
use Rattle.pp_model.specs.declared.Call.{Call}
use Rattle.pp_model.specs.Lists.{AtEach}
use Rattle.pp_model.specs.Calls.{key_of}
use Rattle.pp_model.specs.Pass.{PassView, GoingView, NoteView, IsFresh}
use Rattle.pp_model.specs.MapCalls.{Notes}
use Rattle.pp_trace.specs.TraceLists.{KeysFit}
use Rattle.pp_running.specs.Jobs.{HaveRoom}
use Rattle.pp_running.specs.Run.{IsOpened}
use Rattle.pp_running.proofs.Lists.{mapped_at, at_mapped}
use Rattle.pp_schedule.specs.declared.caller.Caller.{Caller}
use Rattle.pp_schedule.specs.declared.call_future.CallFuture.{CallFuture}
use Rattle.pp_schedule.specs.Calls.{CallerAt, InCall, Shows, rests, CanLearn, answers_of, marks_of}
use Rattle.pp_schedule.specs.Plays.{state_of}
use Rattle.pp_schedule.specs.Schedule.{Opens}
use Rattle.pp_schedule.specs.Seats.{SeenAs, MayGoOn, AllSeen, AllMayGoOn}
use Rattle.pp_schedule.proofs.Moved.{some_same, set_here, set_there}
use Rattle.pp_schedule.proofs.Whole.{Sound}
use Rattle.pp_planned.specs.Planned.{somes, told_nothing, opened_callers, opened_at}

-- a caller that has begun none of these calls
abbrev pub begun : PassView → List Call → CallerAt
begun p calls = record { pass = p; doing = None; calls = calls; answers = []; mark = 0; marks = [] }

pub record BegunAt (passes : List PassView) (lists : List (List Call)) (k : ℕ) (v : CallerAt) : Type 0 where
  pub pass : PassView
  pub calls : List Call
  pub pass_at : slice_get passes k ≡ Some pass
  pub calls_at : slice_get lists k ≡ Some calls
  pub is : v ≡ begun pass calls

pub begun_at : (passes : List PassView) (lists : List (List Call)) (k : ℕ) (v : CallerAt)
    → slice_get (opened_callers passes lists) k ≡ Some v → BegunAt passes lists k v
begun_at [] lists k v at = absurd cc
begun_at (p ∷ passes) [] k v at = absurd cc
begun_at (p ∷ passes) (calls ∷ lists) zero v at =
    record { pass = p; calls = calls; pass_at = refl; calls_at = refl; is = sym (some_same at) }
begun_at (p ∷ passes) (calls ∷ lists) (suc k) v at =
    let b = begun_at passes lists k v at in
    record { pass = b.pass; calls = b.calls; pass_at = b.pass_at; calls_at = b.calls_at; is = b.is }

pub opened_length : (passes : List PassView) (lists : List (List Call)) → length lists ≡ length passes
    → length (opened_callers passes lists) ≡ length passes
opened_length [] lists e = refl
opened_length (p ∷ passes) [] e = absurd (omega (arith, e))
opened_length (p ∷ passes) (calls ∷ lists) e = ap suc (opened_length passes lists (omega (arith, e)))

pub firsts_some : {A B : Type 0} (xs : List (A × B)) → map (λ p. Some p.0) xs ≡ map Some (map (λ p. p.0) xs)
firsts_some [] = refl
firsts_some (x ∷ xs) = ap (λ l. Some x.0 ∷ l) (firsts_some xs)

pub somes_append : {A : Type 0} (xs ys : List (Option A)) → somes (xs ++ ys) ≡ somes xs ++ somes ys
somes_append [] ys = refl
somes_append (None ∷ xs) ys = somes_append xs ys
somes_append (Some x ∷ xs) ys = ap (λ l. x ∷ l) (somes_append xs ys)

pub same_again : {A : Type 0} (xs : List A) → map (λ x. x) xs ≡ xs
same_again [] = refl
same_again (x ∷ xs) = ap (λ l. x ∷ l) (same_again xs)

pub views_length : {A B : Type 0} (f : A → B) (xs : List A) → length (map f xs) ≡ length xs
views_length f [] = refl
views_length f (x ∷ xs) = ap suc (views_length f xs)

pub tells_nothing : (note : NoteView) (was now : PassView) → Notes now note → now ≡ was → IsFresh was → note ≡ told_nothing
tells_nothing note was now notes same fresh =
    let s : note.seen ≡ 0 = notes.seen ∙ (ap (λ (p : PassView). length p.seen) same ∙ ap length fresh.seen) in
    let o : note.order ≡ 0 = notes.order ∙ (ap (λ (p : PassView). length p.order) same ∙ ap length fresh.order) in
    ap (λ (a : ℕ). let n : NoteView = record { seen = a; order = note.order } in n) s
    ∙ ap (λ (b : ℕ). let n : NoteView = record { seen = 0; order = b } in n) o

-- the first of some opened passes has made a note, and is else as it was
module _ {P N : Type 0} (belongs : P → Type 0) (idle : P → Type 0) (view : P → PassView) (learnable : P → N → Type 0) (note : N)
    (others_learn : (p q : P) → belongs p → belongs q → (view p).caller ≢ (view q).caller → learnable p note → learnable q note)
    (ps : List P) (x y : P) (opened : AtEach ps (λ c p. belongs p × idle p × IsOpened c (view p))) (at : slice_get ps 0 ≡ Some x)
    (own : belongs y) (rested : idle y) (same : view y ≡ view x) (learns : learnable y note) where
  here : slice_get (set ps 0 y) 0 ≡ Some y
  here = set_here ps 0 y (slice_get_within ps 0 x at)

  first_opened : IsOpened 0 (view y)
  first_opened = subst (IsOpened 0) (sym same) (opened 0 x at).2

  pub noted_opened : AtEach (set ps 0 y) (λ c p. belongs p × idle p × IsOpened c (view p))
  noted_opened zero p p_at =
      let is : y ≡ p = some_same (sym here ∙ p_at) in
      subst (λ (q : P). belongs q × idle q × IsOpened 0 (view q)) is (own, rested, first_opened)
  noted_opened (suc k) p p_at = opened (suc k) p (sym (set_there ps 0 y (suc k) (λ e. absurd cc)) ∙ p_at)

  pub noted_learns : AtEach (set ps 0 y) (λ c p. learnable p note)
  noted_learns zero p p_at =
      let is : y ≡ p = some_same (sym here ∙ p_at) in
      subst (λ (q : P). learnable q note) is learns
  noted_learns (suc k) p p_at =
      let o = noted_opened (suc k) p p_at in
      others_learn y p own o.0 (λ e. let c = sym first_opened.caller ∙ (e ∙ o.2.caller) in absurd cc) learns

-- the moment before the first turn is one from which a run by a plan starts
module _ (passes : List PassView) (lists : List (List Call)) (opened : AtEach passes IsOpened) where
  pub sound_first : Sound (opened_at passes lists)
  sound_first k v at =
      let b = begun_at passes lists k v at in
      let is_open = opened k b.pass b.pass_at in
      subst (λ (x : CallerAt). (x.pass.caller ≡ k) × InCall x) (sym b.is)
      (is_open.caller, λ d is. absurd cc)

  pass_first : (d : ℕ) (p : PassView) → slice_get (state_of (opened_at passes lists)).passes d ≡ Some p → IsOpened d p
  pass_first d p at =
      let from = mapped_at (λ (v : CallerAt). v.pass) (opened_callers passes lists) d p at in
      let b = begun_at passes lists d from.0 from.1 in
      let same : b.pass ≡ p = sym (ap (λ (v : CallerAt). v.pass) b.is) ∙ from.2 in
      subst (IsOpened d) same (opened d b.pass b.pass_at)

  pub opens_first : Opens (state_of (opened_at passes lists))
  opens_first = record {
    steps = λ d p at. (pass_first d p at).fresh.steps;
    order = λ d p at. (pass_first d p at).fresh.order;
    mine = λ d p at. (pass_first d p at).fresh.mine;
    told_order = refl;
    told_seen = refl;
  }

-- what one caller's parts show before its first turn
module _ {M P G N W : Type 0} (belongs : P → Type 0) (idle : P → Type 0) (under_way : P → G → PassView → Type 0)
    (learnable : P → N → Type 0) (view : P → PassView) (going_view : P → G → GoingView) (this : M) (note : N) where
  -- the program's part at this position, and what it was made of
  pub record IsMade (k : ℕ) (x : Caller M P G N W) (p : P) (calls : List Call) : Type 0 where
    pub pass : x.pass ≡ Some p
    pub calls_are : x.calls.items ≡ calls
    pub call : x.call ≡ None
    pub next : x.next ≡ 0
    pub answers : x.answers.items ≡ []
    pub mark : x.mark ≡ 0
    pub space : length x.calls.items ≤ vec_capacity x.answers
    pub belongs_to : belongs p
    pub is_idle : idle p
    pub opened : IsOpened k (view p)
    pub keys : AtEach calls (λ j call. key_of call ≤ 2 ^ 64 - 4)
    pub room : length calls ≤ (view p).room
    pub learns : learnable p note

  made_seen : (k : ℕ) (x : Caller M P G N W) (p : P) (calls : List Call) → IsMade k x p calls
      → SeenAs belongs idle under_way learnable view going_view this k x (begun (view p) calls)
  made_seen k x p calls m = record {
    shows = subst (λ (o : Option P). Shows belongs idle under_way view going_view (λ (f : CallFuture M P G N W). f.parts)
        (begun (view p) calls) o x.call) (sym m.pass)
        (subst (λ (o : Option (CallFuture M P G N W)). Shows belongs idle under_way view going_view
        (λ (f : CallFuture M P G N W). f.parts) (begun (view p) calls) (Some p) o) (sym m.call)
        (rests p m.belongs_to m.is_idle refl refl));
    calls = sym m.calls_are ∙ ap (λ (j : ℕ). drop j x.calls.items) (sym m.next);
    answers = sym (ap answers_of m.answers);
    marks = sym (ap marks_of m.answers);
    mark = sym m.mark;
    maps = subst (λ (o : Option (CallFuture M P G N W)). IfSome o (λ f. f.map.now ≡ this)) (sym m.call) tt;
    caller = m.opened.caller;
  }

  made_goes : (k : ℕ) (x : Caller M P G N W) (p : P) (calls : List Call) → IsMade k x p calls
      → MayGoOn belongs idle under_way learnable view going_view this note x (begun (view p) calls)
  made_goes k x p calls m = record {
    keys = subst (λ (cs : List Call). AtEach cs (λ j call. key_of call ≤ 2 ^ 64 - 4)) (sym m.calls_are) m.keys;
    room = λ none. m.room;
    room_going = λ d is. absurd cc;
    space = λ none. let many = ap length m.calls_are in let s = m.space in omega (arith, many, s);
    space_going = λ d is. absurd cc;
    learns = subst (λ (o : Option P). CanLearn learnable (λ (f : CallFuture M P G N W). f.parts) o x.call note) (sym m.pass)
        (subst (λ (o : Option (CallFuture M P G N W)). CanLearn learnable (λ (f : CallFuture M P G N W). f.parts) (Some p) o note)
        (sym m.call) (m.learns, tt));
  }

  module _ (ps : List P) (lists : List (List Call)) (xs : List (Caller M P G N W)) (lengths : length lists ≡ length ps)
      (many : length xs ≡ length ps)
      (made : (k : ℕ) (x : Caller M P G N W) (p : P) (calls : List Call) → slice_get xs k ≡ Some x → slice_get ps k ≡ Some p
      → slice_get lists k ≡ Some calls → IsMade k x p calls) where
    -- at each position the moment before the first turn has what the part there was made of
    pub record Has (k : ℕ) (x : Caller M P G N W) (v : CallerAt) : Type 0 where
      pub pass : P
      pub calls : List Call
      pub is_made : IsMade k x pass calls
      pub is : v ≡ begun (view pass) calls

    has_at : (k : ℕ) (x : Caller M P G N W) (v : CallerAt) → slice_get xs k ≡ Some x
        → slice_get (opened_callers (map view ps) lists) k ≡ Some v → Has k x v
    has_at k x v at_x at_v =
        let b = begun_at (map view ps) lists k v at_v in
        let from = mapped_at view ps k b.pass b.pass_at in
        record {
          pass = from.0;
          calls = b.calls;
          is_made = made k x from.0 b.calls at_x from.1 b.calls_at;
          is = b.is ∙ ap (λ (p : PassView). begun p b.calls) (sym from.2);
        }

    pub all_seen : AllSeen belongs idle under_way learnable view going_view this xs (opened_at (map view ps) lists).callers
    all_seen = record {
      lengths = opened_length (map view ps) lists (lengths ∙ sym (views_length view ps)) ∙ (views_length view ps ∙ sym many);
      each = λ k x v at_x at_v.
          let h = has_at k x v at_x at_v in
          subst (λ (w : CallerAt). SeenAs belongs idle under_way learnable view going_view this k x w) (sym h.is)
          (made_seen k x h.pass h.calls h.is_made);
    }

    pub all_go : AllMayGoOn belongs idle under_way learnable view going_view this note xs (opened_at (map view ps) lists).callers
    all_go = record {
      each = λ k x v at_x at_v.
          let h = has_at k x v at_x at_v in
          subst (λ (w : CallerAt). MayGoOn belongs idle under_way learnable view going_view this note x w) (sym h.is)
          (made_goes k x h.pass h.calls h.is_made);
    }

-- what the program made of passes and lists is so at each position
module _ {M P G N W : Type 0} (belongs : P → Type 0) (idle : P → Type 0) (under_way : P → G → PassView → Type 0)
    (learnable : P → N → Type 0) (view : P → PassView) (going_view : P → G → GoingView) (this : M) (note : N)
    (ps : List P) (given : List (Vec Call Global)) (xs : List (Caller M P G N W)) (lengths : length given ≡ length ps)
    (passes_are : map (λ x. x.pass) xs ≡ map Some ps) (lists_are : map (λ x. x.calls) xs ≡ given)
    (idle_all : All (λ x. (x.call ≡ None) × (x.next ≡ 0) × (x.mark ≡ 0)) xs) (empty_all : All (λ x. x.answers.items ≡ []) xs)
    (room_all : All (λ x. length x.calls.items ≤ vec_capacity x.answers) xs)
    (opened : AtEach ps (λ c p. belongs p × idle p × IsOpened c (view p))) (learns : AtEach ps (λ c p. learnable p note))
    (keys : KeysFit (map (λ v. v.items) given)) (room : HaveRoom (map view ps) (map (λ v. v.items) given)) where
  abbrev lists : List (List Call)
  lists = map (λ v. v.items) given

  abbrev many : Type 0
  many = length xs ≡ length ps

  pub many_are : many
  many_are = sym (views_length (λ x. x.pass) xs) ∙ (ap length passes_are ∙ views_length (λ (p : P). Some p) ps)

  pub made_at : (k : ℕ) (x : Caller M P G N W) (p : P) (calls : List Call) → slice_get xs k ≡ Some x → slice_get ps k ≡ Some p
      → slice_get lists k ≡ Some calls → IsMade belongs idle under_way learnable view going_view this note k x p calls
  made_at k x p calls at_x at_p at_calls =
      let low : k < length xs = slice_get_within xs k x at_x in
      let x_is = get_or_from_slice_get xs k x x at_x in
      let i = rw x_is at (idle_all k x low) in
      let e = rw x_is at (empty_all k x low) in
      let r = rw x_is at (room_all k x low) in
      let pass_is : x.pass ≡ Some p =
      let a = sym (at_mapped (λ (y : Caller M P G N W). y.pass) xs k x at_x) ∙ (ap (λ l. slice_get l k) passes_are
      ∙ at_mapped (λ (q : P). Some q) ps k p at_p) in some_same a in
      let calls_is : x.calls.items ≡ calls =
      let a = sym (at_mapped (λ (v : Vec Call Global). v.items) given k x.calls (ap (λ l. slice_get l k) (sym lists_are)
      ∙ at_mapped (λ (y : Caller M P G N W). y.calls) xs k x at_x)) ∙ at_calls in some_same a in
      let o = opened k p at_p in
      record {
        pass = pass_is;
        calls_are = calls_is;
        call = i.0;
        next = i.1;
        answers = e;
        mark = i.2;
        space = r;
        belongs_to = o.0;
        is_idle = o.1;
        opened = o.2;
        keys = keys k calls at_calls;
        room = room k (view p) calls (at_mapped view ps k p at_p) at_calls;
        learns = learns k p at_p;
      }

  pub first_seen : AllSeen belongs idle under_way learnable view going_view this xs (opened_at (map view ps) lists).callers
  first_seen = all_seen belongs idle under_way learnable view going_view this note ps lists xs
      (views_length (λ (v : Vec Call Global). v.items) given ∙ lengths) many_are made_at

  pub first_go : AllMayGoOn belongs idle under_way learnable view going_view this note xs (opened_at (map view ps) lists).callers
  first_go = all_go belongs idle under_way learnable view going_view this note ps lists xs
      (views_length (λ (v : Vec Call Global). v.items) given ∙ lengths) many_are made_at

-- the passes start as those whose views they have
module _ {M P G N W : Type 0} (belongs : P → Type 0) (idle : P → Type 0) (under_way : P → G → PassView → Type 0)
    (learnable : P → N → Type 0) (view : P → PassView) (going_view : P → G → GoingView) (this : M) (note : N)
    (before ps : List P) (given : List (Vec Call Global)) (xs : List (Caller M P G N W)) (lengths : length given ≡ length before)
    (same : map view ps ≡ map view before)
    (passes_are : map (λ x. x.pass) xs ≡ map Some ps) (lists_are : map (λ x. x.calls) xs ≡ given)
    (idle_all : All (λ x. (x.call ≡ None) × (x.next ≡ 0) × (x.mark ≡ 0)) xs) (empty_all : All (λ x. x.answers.items ≡ []) xs)
    (room_all : All (λ x. length x.calls.items ≤ vec_capacity x.answers) xs)
    (opened : AtEach ps (λ c p. belongs p × idle p × IsOpened c (view p))) (learns : AtEach ps (λ c p. learnable p note))
    (keys : KeysFit (map (λ v. v.items) given)) (room : HaveRoom (map view before) (map (λ v. v.items) given)) where
  abbrev Start : List PassView → Type 0
  Start views = AllSeen belongs idle under_way learnable view going_view this xs (opened_at views (map (λ v. v.items) given)).callers
      × AllMayGoOn belongs idle under_way learnable view going_view this note xs (opened_at views (map (λ v. v.items) given)).callers

  pub starts_so : Start (map view before)
  starts_so =
      let many : length given ≡ length ps = lengths ∙ (sym (views_length view before) ∙ (ap length (sym same) ∙ views_length view ps)) in
      let rooms = subst (λ (vs : List PassView). HaveRoom vs (map (λ v. v.items) given)) (sym same) room in
      subst Start same (
        first_seen belongs idle under_way learnable view going_view this note ps given xs many passes_are lists_are idle_all
            empty_all room_all opened learns keys rooms,
        first_go belongs idle under_way learnable view going_view this note ps given xs many passes_are lists_are idle_all
            empty_all room_all opened learns keys rooms,
      )
