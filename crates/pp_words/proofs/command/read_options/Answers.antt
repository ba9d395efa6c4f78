use Rattle.std.proofs.Common.{◌≡◌, ◌∙◌, List, map, [], Ok, Err, Result, false, IfOk, string_bytes, sym}
use Rattle.std.specs.List.{list_any}
use Rattle.clap.specs.Words.{found_of, first_value, fault_of, rows_of, matches_of}
use Rattle.clap.specs.declared.parser.matches.ArgMatches.{ArgMatches}
use Rattle.clap.proofs.WalkLemmas.{list_any-map}
use Rattle.pp_words.specs.declared.WordsFault.{WordsFault}
use Rattle.pp_words.specs.Command.{replay_app}
use Rattle.pp_words.specs.Words.{Text, HasOptions, is_refused}
use Rattle.pp_words.proofs.Options.{refused_words}
use Rattle.pp_words.proofs.Parses.{none_read, options_read}
use Rattle.pp_words.proofs.command.read_options.Goals as goal

read : (words : List Text) (r : Result ArgMatches WordsFault) → list_any is_refused words ≡ false
    → IfOk r (λ m. fault_of replay_app words ≡ []) → IfOk r (λ m. rows_of (found_of m) ≡ matches_of replay_app words)
    → IfOk r (λ m. HasOptions words (first_value (found_of m)))
read words (Ok m) none taken matches = options_read words (found_of m) none taken matches
read words (Err e) none taken matches = tt

pub returns-then-any_refused-clause-refused : goal.returns-then-any_refused-clause-refused
returns-then-any_refused-clause-refused c = λ _.
    refused_words (map string_bytes c.args.words.now)
    (sym (list_any-map is_refused string_bytes c.args.words.now) ∙ sym c.any_refused.ensures ∙ c.if-any_refused.true)

pub returns-clause-given : goal.returns-clause-given
returns-clause-given c =
    let none = sym (list_any-map is_refused string_bytes c.args.words.now) ∙ sym c.any_refused.ensures ∙ c.if-any_refused.false in
    read (map string_bytes c.args.words.now) c.parse.result none c.parse.ensures.taken c.parse.ensures.matches

pub returns-clause-refused : goal.returns-clause-refused
returns-clause-refused c = λ e.
    let none = sym (list_any-map is_refused string_bytes c.args.words.now) ∙ sym c.any_refused.ensures ∙ c.if-any_refused.false in
    none_read (map string_bytes c.args.words.now) none (c.parse.ensures.refused e)
