-- What words say of a made trace, and what want of memory leaves.
use Rattle.std.proofs.Common.{◌≡◌, ℕ, List, refl, sym, ap, ◌∙◌}
use Rattle.std.specs.Prelude.{Bool, true, false, Option, Some, None, is_some}
use Rattle.std.proofs.lemmas.Bool.{true≢false}
use Rattle.pp_trace.specs.declared.Make.{Make}
use Rattle.pp_words.specs.declared.Settings.{Settings}
use Rattle.pp_words.specs.Words.{settings_of}
use Rattle.pp_devices.specs.Devices.{World}
use Rattle.pp_programs.specs.Causes.{Says, IsRefused, WasSpared, HadNoMemory}

-- whether a made trace is asked for
not_made : (make : Option Make) (b : Bool) → b ≡ is_some make → b ≡ false → make ≡ None
not_made None b is none = refl
not_made (Some m) b is none = absurd (true≢false (sym is ∙ none))

made : (make : Option Make) (b : Bool) → b ≡ is_some make → b ≡ true → make ≡ None → ⊥
made None b is one none = true≢false (sym one ∙ is)
made (Some m) b is one none = cc

module _ (words : List (List ℕ)) (settings : Settings) (said_by : settings_of words ≡ Some settings) (b : Bool)
    (is : b ≡ is_some settings.make) where
  -- where none is, the words say settings
  pub says : b ≡ false → Says words settings
  says none = record { settings = said_by; reads = not_made settings.make b is none }

  -- and where one is, they are refused
  pub refused_made : (world : World) → b ≡ true → IsRefused words world world
  refused_made world one = record {
    none = λ s own. let same : s ≡ settings = let is_own = own.settings in cc in
        made settings.make b is one (ap (λ x. x.make) (sym same) ∙ own.reads);
    untouched = record { source = refl; sink = refl };
  }

-- want of memory before the first write
pub no_memory : (words : List (List ℕ)) (settings : Settings) (before after : World) → settings_of words ≡ Some settings
    → after.sink ≡ before.sink → WasSpared settings.make before.source after.source → HadNoMemory words before after
no_memory words settings before after said_by quiet spared = record {
  quiet = quiet;
  unfailed = spared.unfailed;
  unread = λ s m said made. let same : s ≡ settings = cc in spared.unread m (ap (λ x. x.make) (sym same) ∙ made);
}

-- want of memory where the source was to be read
pub no_memory_read : (words : List (List ℕ)) (settings : Settings) (before after : World) → Says words settings
    → after.sink ≡ before.sink → after.source.faults ≡ before.source.faults → HadNoMemory words before after
no_memory_read words settings before after said quiet unfailed = no_memory words settings before after said.settings quiet (record {
  unfailed = unfailed;
  unread = λ m is. let none = said.reads in absurd cc;
})
