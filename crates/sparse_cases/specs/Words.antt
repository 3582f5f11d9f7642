-- The letters of the lines' words, and how many numbers follow them.
use Rattle.std.specs.Prelude.{ℕ, Bool, true, List, ◌==◌, codes}
use Rattle.sparse_cases.specs.declared.words.Word.{Word}
use Rattle.sparse_cases.specs.declared.words.Word.TheVariants.{Lend, Parts, Open, Step, Drop, Forge, Poke, Dump, Full}

abbrev pub letters_of : Word → List ℕ
letters_of Lend = codes "lend"
letters_of Parts = codes "parts"
letters_of Open = codes "open"
letters_of Step = codes "step"
letters_of Drop = codes "drop"
letters_of Forge = codes "forge"
letters_of Poke = codes "poke"
letters_of Dump = codes "dump"
letters_of Full = codes "full"

-- whether so many numbers may follow a word: any after `parts`, since parts may be left out
abbrev pub takes : Word → ℕ → Bool
takes Lend n = n == 6
takes Parts n = true
takes Open n = n == 12
takes Step n = n == 1
takes Drop n = n == 0
takes Forge n = n == 2
takes Poke n = n == 3
takes Dump n = n == 0
takes Full n = n == 0
