-- The letters of the cases' words, and how many numbers follow them.
use Rattle.std.specs.Prelude.{ℕ, List, codes}
use Rattle.grid_cases.specs.declared.words.Word.{Word}
use Rattle.grid_cases.specs.declared.words.Word.TheVariants.{Block, Size, Along, Counts, Node, Axis, Child, Active, Corner, Corners, Leaf, Leaves, Places, Half, Extremes, Pruned, ShortList, LongList, Open}

abbrev pub letters_of : Word → List ℕ
letters_of Block = codes "block"
letters_of Size = codes "size"
letters_of Along = codes "along"
letters_of Counts = codes "counts"
letters_of Node = codes "node"
letters_of Axis = codes "axis"
letters_of Child = codes "child"
letters_of Active = codes "active"
letters_of Corner = codes "corner"
letters_of Corners = codes "corners"
letters_of Leaf = codes "leaf"
letters_of Leaves = codes "leaves"
letters_of Places = codes "places"
letters_of Half = codes "half"
letters_of Extremes = codes "extremes"
letters_of Pruned = codes "pruned"
letters_of ShortList = codes "list"
letters_of LongList = codes "longlist"
letters_of Open = codes "open"

abbrev pub count_of : Word → ℕ
count_of Block = 1
count_of Size = 3
count_of Along = 3
count_of Counts = 9
count_of Node = 10
count_of Axis = 6
count_of Child = 11
count_of Active = 10
count_of Corner = 8
count_of Corners = 9
count_of Leaf = 8
count_of Leaves = 9
count_of Places = 2
count_of Half = 6
count_of Extremes = 8
count_of Pruned = 11
count_of ShortList = 5
count_of LongList = 12
count_of Open = 21
