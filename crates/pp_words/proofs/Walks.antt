-- The parser's walk over the words, beside the reading of the words from left to right. Between two words the
-- walk stands in one of three states: no option is pending; an option is pending that has its value, and is
-- looked at with the next word or at the end; or an option waits for its value. The first two are one case here,
-- since what counts of them is which options there are once the pending one is looked at.
use Rattle.std.proofs.Common.{◌≡◌, ◌++◌, ◌&&◌, ◌||◌, Bool, true, false, not, cond, if◌then◌else◌, inl, inr, List, [], ◌∷◌, map, drop}
use Rattle.std.proofs.Common.{Option, Some, None, option_and_then, codes, refl, true≢false}
use Rattle.std.proofs.lemmas.Slice.Eq.{bytes_eq-Decides}
use Rattle.std.specs.List.{fold, list_any}
use Rattle.clap.specs.Faults.{settle_fault, turn_fault, walk_fault}
use Rattle.clap.specs.Kinds.{Kinds, or_else}
use Rattle.clap.specs.Lexer.{name_and_value}
use Rattle.clap.specs.Walk.{Held, Row, Rule, Text, Waiting, Walk, idle, option, reacted, settled, walked}
use Rattle.clap.specs.declared.error.kind.ErrorKind.{ErrorKind}
use Rattle.clap.specs.declared.error.kind.ErrorKind.TheVariants as kind
use Rattle.pp_words.specs.Words.{Given, after, and_then, before, begins_with, has_byte, is_given, is_refused, option_of, options_from}
use Rattle.pp_words.proofs.Looks.{IsLong, IsOption, IsPlain, attached_option, looks, named_option, some_option}
use Rattle.pp_words.proofs.Rules.{by_id, by_index, by_long, by_no_long, has_row-map, is_among, row, rule, shape, used_after}

or_left : (a b : Bool) → (a || b) ≡ false → a ≡ false
or_left false b e = refl
or_left true b e = e

or_right : (a b : Bool) → (a || b) ≡ false → b ≡ false
or_right false b e = e
or_right true b e = absurd (true≢false e)

module _ (names : List Text) where
  abbrev pub rules : List Rule
  rules = map rule names

  -- ---- the walk

  abbrev pub waiting_of : Option Text → Waiting
  waiting_of None = idle
  waiting_of (Some name) = option name

  abbrev pub walk_at : Held → Option Text → Walk
  walk_at h waiting =
      record { held = h; waiting = waiting_of waiting; position = 1; is_trailing = false; stopped = None }

  abbrev turn : Held → Option Text → Text → Kinds
  turn h waiting word = turn_fault (shape names) [] (walk_at h waiting) word

  abbrev pub settles : Held → Kinds
  settles h = settle_fault rules false h

  abbrev pub IsFault : Kinds → Type 0
  IsFault kinds = kinds ≡ [] → ⊥

  fault_is : (k : ErrorKind) (kinds : Kinds) → kinds ≡ k ∷ [] → IsFault kinds
  fault_is k kinds e f = cc

  unfoldable pub fault_of_all : Walk → List Text → Kinds
  fault_of_all w words = or_else (walk_fault (shape names) [] w words) (settles (fold (walked rules []) w words).held)

  abbrev pub rows_of_all : Walk → List Text → List Row
  rows_of_all w words = (settled rules (fold (walked rules []) w words).held).rows

  -- a parse from this walk over these words gives these options, or fails
  abbrev pub Comes : Walk → List Text → Option (List Given) → Type 0
  Comes w words None = IsFault (fault_of_all w words)
  Comes w words (Some given) = (fault_of_all w words ≡ []) × (rows_of_all w words ≡ map row given)

  steps : (w : Walk) (word : Text) (words : List Text) (r : Option (List Given)) → turn_fault (shape names) [] w word ≡ []
      → Comes (walked rules [] w word) words r → Comes w (word ∷ words) r
  unfolding walk_fault fault_of_all
  steps w word words None e h = rw e h
  steps w word words (Some given) e h = (rw e h.0, h.1)

  stops : (w : Walk) (word : Text) (words : List Text) → IsFault (turn_fault (shape names) [] w word)
      → Comes w (word ∷ words) None
  unfolding walk_fault fault_of_all
  stops w word words f = go (turn_fault (shape names) [] w word) f
    where
      next : Walk
      next = walked rules [] w word

      go : (kinds : Kinds) → IsFault kinds
          → IsFault (or_else (or_else kinds (walk_fault (shape names) [] next words)) (settles (fold (walked rules []) next words).held))
      go [] f = absurd (f refl)
      go (k ∷ ks) f = λ e. cc

  -- ---- the options so far

  -- these options were read, the last of them perhaps still pending
  pub record Stands (h : Held) (given : List Given) : Type 0 where
    pub clear : settles h ≡ []
    pub rows : (settled rules h).rows ≡ map row given

  -- these options were read, and this one waits for its value
  pub record Waits (h : Held) (name : Text) (given : List Given) : Type 0 where
    pub known : is_among names name ≡ true
    pub rows : h.rows ≡ map row given
    pub pending : h.pending ≡ Some (name, [])

  abbrev pub Fits : Option Text → Held → List Given → Type 0
  Fits None h given = Stands h given
  Fits (Some name) h given = Waits h name given

  settles_waiting : (h : Held) (name : Text) (given : List Given) → Waits h name given → settles h ≡ kind.InvalidValue ∷ []
  settles_waiting h name given w = rw (w.pending, by_id names name w.known)

  -- what waited has its value
  settles_value : (h : Held) (g : Given) (given : List Given) → Waits h g.name given → is_given g.name given ≡ false
      → Stands (record h { pending = Some (g.name, g.value ∷ []) }) (given ++ g ∷ [])
  settles_value h g given w new = record {
    clear = rw (by_id names g.name w.known, w.rows, has_row-map g.name given, new);
    rows = rw (by_id names g.name w.known) (used_after given g h.rows w.rows new);
  }

  settles_again : (h : Held) (g : Given) (given : List Given) → Waits h g.name given → is_given g.name given ≡ true
      → settles (record h { pending = Some (g.name, g.value ∷ []) }) ≡ kind.ArgumentConflict ∷ []
  settles_again h g given w old = rw (by_id names g.name w.known, w.rows, has_row-map g.name given, old)

  -- ---- turns that fail

  -- an option that isn't known
  turn_unknown : (h : Held) (waiting : Option Text) (word name : Text) (v : Option Text) → IsOption word name v
      → is_among names name ≡ false → IsFault (turn h waiting word)
  turn_unknown h None word name v o un =
      λ f. let g : kind.UnknownArgument ∷ [] ≡ [] = rw (o.is_more, o.long, by_no_long names name un) at f in cc
  turn_unknown h (Some id) word name v o un =
      λ f. let g : kind.UnknownArgument ∷ [] ≡ [] = rw (o.is_more, o.long, by_no_long names name un) at f in cc

  -- a value for which none waits
  turn_stray : (h : Held) (word : Text) → IsPlain word → IsFault (turn h None word)
  turn_stray h word is =
      λ f. let g : kind.UnknownArgument ∷ [] ≡ [] = rw (is.is_more, is.no_long, is.no_short, by_index names) at f in cc

  -- an option that was given before
  turn_again : (h : Held) (given : List Given) (word name v : Text) → IsOption word name (Some v)
      → is_among names name ≡ true → Stands h given → is_given name given ≡ true → IsFault (turn h None word)
  turn_again h given word name v o known s old = λ f.
      let g : kind.ArgumentConflict ∷ [] ≡ [] =
      rw (o.is_more, o.long, by_long names name known, s.clear, s.rows, has_row-map name given, old) at f in cc

  -- an option after a pending one that fails
  turn_known : (h : Held) (k : ErrorKind) (waiting : Option Text) (word name : Text) (v : Option Text) → IsOption word name v
      → settles h ≡ k ∷ [] → is_among names name ≡ true → IsFault (turn h waiting word)
  turn_known h k None word name None o e known =
      λ f. let g : k ∷ [] ≡ [] = rw (o.is_more, o.long, by_long names name known, e) at f in cc
  turn_known h k None word name (Some v) o e known =
      λ f. let g : k ∷ [] ≡ [] = rw (o.is_more, o.long, by_long names name known, e) at f in cc
  turn_known h k (Some id) word name None o e known =
      λ f. let g : k ∷ [] ≡ [] = rw (o.is_more, o.long, by_long names name known, e) at f in cc
  turn_known h k (Some id) word name (Some v) o e known =
      λ f. let g : k ∷ [] ≡ [] = rw (o.is_more, o.long, by_long names name known, e) at f in cc

  turn_stuck : (h : Held) (k : ErrorKind) (waiting : Option Text) (word : Text) → IsLong word → settles h ≡ k ∷ []
      → IsFault (turn h waiting word)
  turn_stuck h k waiting word is e = go (is_among names name) refl
    where
      name : Text
      name = (name_and_value (drop 2 word)).0

      value : Option Text
      value = (name_and_value (drop 2 word)).1

      go : (b : Bool) → is_among names name ≡ b → IsFault (turn h waiting word)
      go true known = turn_known h k waiting word name value (some_option word is) e known
      go false un = turn_unknown h waiting word name value (some_option word is) un

  -- where the pending option fails, so does the parse
  stuck : (h : Held) (k : ErrorKind) (words : List Text) → settles h ≡ k ∷ [] → list_any is_refused words ≡ false
      → Comes (walk_at h None) words None
  unfolding walk_fault fault_of_all
  stuck h k [] e none = fault_is k (settles h) e
  stuck h k (word ∷ words) e none = elim (looks word (or_left (is_refused word) (list_any is_refused words) none)) [
    | inl is ↦ stops (walk_at h None) word words (turn_stray h word is)
    | inr is ↦ stops (walk_at h None) word words (turn_stuck h k None word is e)
  ]

  -- ---- turns that pass

  turn_attached : (h : Held) (given : List Given) (word name v : Text) → IsOption word name (Some v)
      → is_among names name ≡ true → Stands h given → is_given name given ≡ false → turn h None word ≡ []
  turn_attached h given word name v o known s new =
      rw (o.is_more, o.long, by_long names name known, s.clear, s.rows, has_row-map name given, new)

  walked_attached : (h : Held) (word name v : Text) → IsOption word name (Some v) → is_among names name ≡ true
      → walked rules [] (walk_at h None) word ≡ walk_at (reacted rules (rule name) (v ∷ []) h) None
  unfolding walked
  walked_attached h word name v o known = rw (o.is_more, o.long, by_long names name known)

  turn_named : (h : Held) (word name : Text) → IsOption word name None → is_among names name ≡ true → settles h ≡ []
      → turn h None word ≡ []
  turn_named h word name o known s = rw (o.is_more, o.long, by_long names name known, s)

  walked_named : (h : Held) (word name : Text) → IsOption word name None → is_among names name ≡ true
      → walked rules [] (walk_at h None) word ≡ walk_at (record (settled rules h) { pending = Some (name, []) }) (Some name)
  unfolding walked
  walked_named h word name o known = rw (o.is_more, o.long, by_long names name known)

  turn_value : (h : Held) (name word : Text) → IsPlain word → turn h (Some name) word ≡ []
  turn_value h name word is = rw (is.is_more, is.no_long, is.no_short)

  walked_value : (h : Held) (name word : Text) (given : List Given) → IsPlain word → Waits h name given
      → walked rules [] (walk_at h (Some name)) word ≡ walk_at (record h { pending = Some (name, word ∷ []) }) None
  unfolding walked
  walked_value h name word given is w =
      let same = (bytes_eq-Decides name name).1 refl in
      rw (is.is_more, is.no_long, is.no_short, by_id names name w.known, w.pending, same)

  -- ---- the options that the words give

  -- the options after those given, where each is known and new
  abbrev pub add : List Given → List Given → Option (List Given)
  add given [] = Some given
  add given (g ∷ rest) = if is_among names g.name && not (is_given g.name given) then add (given ++ g ∷ []) rest else None

  abbrev pub added : List Given → Option (List Given) → Option (List Given)
  added given rest = option_and_then (add given) rest

  add_unknown : (given : List Given) (name v : Text) (rest : Option (List Given)) → is_among names name ≡ false
      → added given (and_then name v rest) ≡ None
  add_unknown given name v None un = refl
  add_unknown given name v (Some rest) un = rw un

  add_again : (given : List Given) (name v : Text) (rest : Option (List Given)) → is_among names name ≡ true
      → is_given name given ≡ true → added given (and_then name v rest) ≡ None
  add_again given name v None known old = refl
  add_again given name v (Some rest) known old = rw (known, old)

  add_new : (given : List Given) (g : Given) (rest : Option (List Given)) → is_among names g.name ≡ true
      → is_given g.name given ≡ false → added given (and_then g.name g.value rest) ≡ added (given ++ g ∷ []) rest
  add_new given g None known new = refl
  add_new given g (Some rest) known new = rw (known, new)

  pub add_waiting : (given : List Given) (name : Text) (words : List Text) → is_among names name ≡ false
      → added given (options_from (Some name) words) ≡ None
  add_waiting given name [] un = refl
  add_waiting given name (word ∷ words) un = go (begins_with (codes "-") word)
    where
      go : (b : Bool) → added given (cond b None (and_then name word (options_from None words))) ≡ None
      go true = refl
      go false = add_unknown given name word (options_from None words) un

  -- ---- the walk gives the options that the words give

  abbrev pub ComesAll : List Text → Type 0
  ComesAll words = (waiting : Option Text) (h : Held) (given : List Given) → Fits waiting h given
      → Comes (walk_at h waiting) words (added given (options_from waiting words))

  walks_end : ComesAll []
  unfolding walk_fault fault_of_all
  walks_end None h given s = (s.clear, s.rows)
  walks_end (Some name) h given w = fault_is kind.InvalidValue (settles h) (settles_waiting h name given w)

  module _ (words : List Text) (rest : ComesAll words) (word : Text) where
    -- `--NAME=VALUE`
    attached : (h : Held) (given : List Given) (name v : Text) → Stands h given → IsOption word name (Some v)
        → Comes (walk_at h None) (word ∷ words) (added given (and_then name v (options_from None words)))
    attached h given name v s o = by_name (is_among names name) refl
      where
        g : Given
        g = record { name = name; value = v }

        now : Walk
        now = walk_at h None

        later : Option (List Given)
        later = options_from None words

        by_new : (b : Bool) → is_among names name ≡ true → is_given name given ≡ b
            → Comes now (word ∷ words) (added given (and_then name v later))
        by_new true known old =
            rw (add_again given name v later known old) (stops now word words (turn_again h given word name v o known s old))
        by_new false known new =
            let h' : Held = reacted rules (rule name) (v ∷ []) h in
            let stands : Stands h' (given ++ g ∷ []) =
            record { clear = refl; rows = used_after given g (settled rules h).rows s.rows new } in
            let tail : Comes (walk_at h' None) words (added (given ++ g ∷ []) later) = rest None h' (given ++ g ∷ []) stands in
            rw (add_new given g later known new)
            (steps now word words (added (given ++ g ∷ []) later) (turn_attached h given word name v o known s new)
            (rw (walked_attached h word name v o known) tail))

        by_name : (b : Bool) → is_among names name ≡ b → Comes now (word ∷ words) (added given (and_then name v later))
        by_name true known = by_new (is_given name given) known refl
        by_name false un =
            rw (add_unknown given name v later un) (stops now word words (turn_unknown h None word name (Some v) o un))

    -- `--NAME`
    named : (h : Held) (given : List Given) (name : Text) → Stands h given → IsOption word name None
        → Comes (walk_at h None) (word ∷ words) (added given (options_from (Some name) words))
    named h given name s o = by_name (is_among names name) refl
      where
        now : Walk
        now = walk_at h None

        by_name : (b : Bool) → is_among names name ≡ b
            → Comes now (word ∷ words) (added given (options_from (Some name) words))
        by_name true known =
            let h' : Held = record (settled rules h) { pending = Some (name, []) } in
            let tail = rest (Some name) h' given (record { known = known; rows = s.rows; pending = refl }) in
            steps now word words (added given (options_from (Some name) words)) (turn_named h word name o known s.clear)
            (rw (walked_named h word name o known) tail)
        by_name false un =
            rw (add_waiting given name words un) (stops now word words (turn_unknown h None word name None o un))

    -- one more word, where none waits
    walks_idle : (h : Held) (given : List Given) → Stands h given → is_refused word ≡ false
        → Comes (walk_at h None) (word ∷ words) (added given (options_from None (word ∷ words)))
    walks_idle h given s proper = elim (looks word proper) [
      | inl is ↦ rw is.no_hyphens (stops (walk_at h None) word words (turn_stray h word is))
      | inr is ↦ rw is.hyphens (by_form is (has_byte 61 (drop 2 word)) refl)
    ]
      where
        by_form : IsLong word → (b : Bool) → has_byte 61 (drop 2 word) ≡ b
            → Comes (walk_at h None) (word ∷ words) (added given (option_of (drop 2 word) (λ waiting. options_from waiting words)))
        by_form is true e =
            rw e (attached h given (before 61 (drop 2 word)) (after 61 (drop 2 word)) s (attached_option word is e))
        by_form is false e = rw e (named h given (drop 2 word) s (named_option word is e))

    -- one more word, where an option waits for its value
    walks_waiting : list_any is_refused words ≡ false → (h : Held) (name : Text) (given : List Given) → Waits h name given
        → is_refused word ≡ false
        → Comes (walk_at h (Some name)) (word ∷ words) (added given (options_from (Some name) (word ∷ words)))
    walks_waiting none h name given w proper = elim (looks word proper) [
      | inl is ↦ rw is.no_hyphen (by_new is (is_given name given) refl)
      | inr is ↦ rw is.hyphen (stops now word words (turn_stuck h kind.InvalidValue (Some name) word is (settles_waiting h name given w)))
    ]
      where
        g : Given
        g = record { name = name; value = word }

        now : Walk
        now = walk_at h (Some name)

        h' : Held
        h' = record h { pending = Some (name, word ∷ []) }

        later : Option (List Given)
        later = options_from None words

        step : IsPlain word → (r : Option (List Given)) → Comes (walk_at h' None) words r → Comes now (word ∷ words) r
        step is r tail = steps now word words r (turn_value h name word is) (rw (walked_value h name word given is w) tail)

        by_new : IsPlain word → (b : Bool) → is_given name given ≡ b
            → Comes now (word ∷ words) (added given (and_then name word later))
        by_new is true old = rw (add_again given name word later w.known old)
            (step is None (stuck h' kind.ArgumentConflict words (settles_again h g given w old) none))
        by_new is false new = rw (add_new given g later w.known new)
            (step is (added (given ++ g ∷ []) later) (rest None h' (given ++ g ∷ []) (settles_value h g given w new)))

  pub walks : (words : List Text) → list_any is_refused words ≡ false → ComesAll words
  walks [] none waiting h given fits = walks_end waiting h given fits
  walks (word ∷ words) none None h given s =
      let proper = or_left (is_refused word) (list_any is_refused words) none in
      let none' = or_right (is_refused word) (list_any is_refused words) none in
      walks_idle words (walks words none') word h given s proper
  walks (word ∷ words) none (Some name) h given w =
      let proper = or_left (is_refused word) (list_any is_refused words) none in
      let none' = or_right (is_refused word) (list_any is_refused words) none in
      walks_waiting words (walks words none') word none' h name given w proper
