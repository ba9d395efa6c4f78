-- The command that the parser is given: options that each take one value.
use Rattle.std.specs.Prelude.{List, [], ◌∷◌, Some, true, codes}
use Rattle.clap.specs.Words.{Rule, App, new_app, new_rule, with_rule}
use Rattle.clap.specs.declared.builder.action.ArgAction.TheVariants.{Set}
use Rattle.pp_words.specs.Words.{Text, option_names}

abbrev pub option_rule : Text → Rule
option_rule name = record (new_rule name) { long = Some name; action = Some Set }

abbrev pub start_app : App
start_app =
    record (new_app (codes "replay")) { top = record (new_app (codes "replay")).top { no_binary_name = true; disable_help_flag = true } }

abbrev pub with_options : App → List Text → App
with_options app [] = app
with_options app (name ∷ names) = with_options (with_rule app (option_rule name)) names

abbrev pub replay_app : App
replay_app = with_options start_app option_names
