-- One entry more that has a spelling, and some fewer.
use Rattle.std.proofs.Common.{ℕ, zero, suc, List, [], ◌∷◌, ◌++◌, drop}
use Rattle.std.specs.List.{AllByRecursion}
use Rattle.rows.specs.declared.entry.Entry.{Entry}
use Rattle.rows.specs.Spelling.{HasSpelling}

pub spelled_push : (entries : List Entry) (entry : Entry) → AllByRecursion HasSpelling entries → HasSpelling entry
    → AllByRecursion HasSpelling (entries ++ entry ∷ [])
spelled_push [] entry all one = (one, tt)
spelled_push (first ∷ entries) entry all one = (all.0, spelled_push entries entry all.1 one)

pub spelled_drop : (n : ℕ) (entries : List Entry) → AllByRecursion HasSpelling entries → AllByRecursion HasSpelling (drop n entries)
spelled_drop zero entries all = all
spelled_drop (suc n) [] all = tt
spelled_drop (suc n) (first ∷ entries) all = spelled_drop n entries all.1
