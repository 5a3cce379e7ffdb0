-- What happens to files while they are read.
use Rattle.std.proofs.Common.{◌≡◌, ◌∙◌, ◌++◌, ℕ, List, [], ◌∷◌, Option, Some, false, sym, ap, append-nil, append_assoc}
use Rattle.std.specs.List.{flat_map}
use Rattle.std.specs.Option.{option_map}
use Rattle.iv_program.specs.Files.{Closed, FileEvent, FilesState, Opened, after_one, after_reading, once}

pub opens-each : (names : List (List ℕ)) (files : FilesState) (events : List FileEvent) → files.events ≡ Some events → (after_reading names files).events ≡ Some (events ++ flat_map once names)
opens-each [] files events are = are ∙ ap Some (sym (append-nil events))
opens-each (name ∷ names) files events are =
    opens-each names (after_one false name files) ((events ++ Opened name ∷ []) ++ Closed false ∷ [])
    (ap (λ (known : Option (List FileEvent)). option_map (λ (l : List FileEvent). l ++ Closed false ∷ []) (option_map (λ (l : List FileEvent). l ++ Opened name ∷ []) known)) are)
    ∙ ap Some (append_assoc (events ++ Opened name ∷ []) (Closed false ∷ []) (flat_map once names) ∙ append_assoc events (Opened name ∷ []) (Closed false ∷ flat_map once names))
