-- A file with each kind of command whose obligations are all valid.
use Rattle.std.proofs.Common.{[], ◌∷◌, refl}
use Rattle.std.specs.List.{AllByRecursion as Each}
use Rattle.dl_term.specs.Syntax.{opened}
use Rattle.dl_model.specs.Safe.{EachRunIsSafe}
use Rattle.dl_inv.specs.Duties.{duties_of as duties_of_states}
use Rattle.dl_inv.specs.Taken.{IsMet as IsMetBelow}
use Rattle.dl_sound.specs.Examples.{whole_game}
use Rattle.dl_sound.proofs.Games.{whole_game-formed, whole_game-keeps}
use Rattle.dl_triples.specs.Duties.{duties_of}
use Rattle.dl_triples.specs.Taken.{IsMet}
use Rattle.dl_programs.proofs.Programs.{programs-safe}

pub states-met : Each (IsMetBelow whole_game) (duties_of_states whole_game)
states-met = tt

pub programs-met : Each (IsMet whole_game) (duties_of whole_game)
unfolding opened
programs-met = (
  ([], record { count = refl; distinct = tt; new = tt; unbound = tt }, λ label state names sorted fits facts. refl),
  (
    ([], record { count = refl; distinct = tt; new = tt; unbound = tt }, λ label state names sorted fits facts. refl),
    (
      ([], record { count = refl; distinct = tt; new = tt; unbound = tt }, λ label state names sorted fits facts. refl),
      (
        ([], record { count = refl; distinct = tt; new = tt; unbound = tt }, λ label state names sorted fits facts. refl),
        (
          ([], record { count = refl; distinct = tt; new = tt; unbound = tt }, λ label state names sorted fits facts. refl),
          (
            ([], record { count = refl; distinct = tt; new = tt; unbound = tt }, λ label state names sorted fits facts. refl),
            (
              ([], record { count = refl; distinct = tt; new = tt; unbound = tt }, λ label state names sorted fits facts. refl),
              (
                (40 ∷ [], record { count = refl; distinct = (refl, tt); new = (refl, tt); unbound = (refl, tt) }, λ label state names sorted fits facts. refl),
                (
                  (40 ∷ [], record { count = refl; distinct = (refl, tt); new = (refl, tt); unbound = (refl, tt) }, λ label state names sorted fits facts. refl),
                  (
                    ([], record { count = refl; distinct = tt; new = tt; unbound = tt }, λ label state names sorted fits facts. refl),
                    (
                      ([], record { count = refl; distinct = tt; new = tt; unbound = tt }, λ label state names sorted fits facts. refl),
                      (
                        ([], record { count = refl; distinct = tt; new = tt; unbound = tt }, λ label state names sorted fits facts. refl),
                        (
                          (40 ∷ [], record { count = refl; distinct = (refl, tt); new = (refl, tt); unbound = (refl, tt) }, λ label state names sorted fits facts. refl),
                          (
                            ([], record { count = refl; distinct = tt; new = tt; unbound = tt }, λ label state names sorted fits facts. refl),
                            (
                              (40 ∷ [], record { count = refl; distinct = (refl, tt); new = (refl, tt); unbound = (refl, tt) }, λ label state names sorted fits facts. refl),
                              (
                                ([], record { count = refl; distinct = tt; new = tt; unbound = tt }, λ label state names sorted fits facts. refl),
                                (([], record { count = refl; distinct = tt; new = tt; unbound = tt }, λ label state names sorted fits facts. refl), tt),
                              ),
                            ),
                          ),
                        ),
                      ),
                    ),
                  ),
                ),
              ),
            ),
          ),
        ),
      ),
    ),
  ),
)

pub whole_game-safe : EachRunIsSafe whole_game
whole_game-safe = programs-safe whole_game whole_game-formed whole_game-keeps states-met programs-met
