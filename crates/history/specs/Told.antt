-- What a history tells.
use Rattle.std.specs.Prelude.{List, [], ◌∷◌, map}
use Rattle.rows.specs.declared.commit.Commit.{Commit}
use Rattle.history.specs.declared.stamp.Stamp.{Stamp}

-- the commits of a history: those of its stamps, but for the first, which begins it and counts none
abbrev pub told : List Stamp → List Commit
told [] = []
told (first ∷ stamps) = map (λ (stamp : Stamp). stamp.commit) stamps
