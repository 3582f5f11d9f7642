-- The letters of the cases' words.
use Rattle.std.specs.Prelude.{ℕ, List, codes}
use Rattle.dense_vectors.specs.declared.words.Word.{Word}
use Rattle.dense_vectors.specs.declared.words.Word.TheVariants.{Count, Place, Indices, Corners, Points, Cells, Pad, Threshold, Smooth, Octet, Octets, Sample}

abbrev pub letters_of : Word → List ℕ
letters_of Count = codes "count"
letters_of Place = codes "place"
letters_of Indices = codes "indices"
letters_of Corners = codes "corners"
letters_of Points = codes "points"
letters_of Cells = codes "cells"
letters_of Pad = codes "pad"
letters_of Threshold = codes "threshold"
letters_of Smooth = codes "smooth"
letters_of Octet = codes "octet"
letters_of Octets = codes "octets"
letters_of Sample = codes "sample"
