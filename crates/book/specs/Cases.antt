-- Worked cases, as one list: the calls of each with the answers that the rules give.
use Rattle.std.specs.Prelude.{◌≡◌, ℕ, List, [], ◌∷◌, ◌++◌, map, ℤ, pos, negsuc, Some, None, codes, Option}
use Prim.Native.String.{String}
use Rattle.std.specs.List.{AllByRecursion}
use Rattle.life.specs.Rules.{new_life}
use Rattle.book.specs.Book.{Book, empty_book, Call, AddEntity, AddContract, NameFile, Identify, Close, Judge, LookUp, Total, Answer, Accepted, Refused, Receipt, Found, answers}

-- a case: the book before it, and the calls with the answers expected
pub record Case : Type 0 where
  pub before : Book
  pub steps : List (Call × Answer)

-- the book answers as expected
abbrev pub Stands : Case → Type 0
Stands c = answers c.before (map (λ s. s.0) c.steps) ≡ map (λ s. s.1) c.steps

-- one entity, one contract, and a file named and identified
abbrev pub opening : List (Call × Answer)
opening =
    (AddEntity (codes "A0000116N.DE"), Accepted)
    ∷ (AddContract (codes "DE-1;FW;;"), Accepted)
    ∷ (NameFile (codes "20150715_REMITTable1_V1_A0000116N.DE_1.xml"), Accepted)
    ∷ (Identify 0 (codes "A0000116N.DE"), Accepted)
    ∷ []

-- lines judged in the first file
abbrev pub judged_lines : List (String × Answer) → List (Call × Answer)
judged_lines = map (λ s. (Judge 0 (codes s.0), s.1))

-- lines judged after that opening, with room for so many lives, and then other calls
abbrev pub opened : ℕ → List (String × Answer) → List (Call × Answer) → Case
opened room ls more = record { before = empty_book room; steps = opening ++ (judged_lines ls ++ more) }

-- lines judged after it, with room for 255 lives
abbrev pub lines : List (String × Answer) → Case
lines ls = opened 255 ls []

-- a life that is looked up and found
abbrev pub finding : String → ℕ → ℕ → Option ℤ → List (Call × Answer)
finding l t q p = (LookUp (codes l), Found (Some (new_life t q p))) ∷ []

abbrev pub cases : List Case
cases =
    -- an empty line gets 1
    lines
    (("", Refused 1 0 0)
    ∷ [])
    -- quantity 10000000 passes, and 10000000.00001 gets 19
    ∷ opened 255
    (("TRD;T-1;DE-1;XEER;C0643778W.EU;B;N;100;10000000;53.5;", Accepted)
    ∷ ("TRD;T-2;DE-1;XEER;C0643778W.EU;B;N;100;10000000.00001;53.5;", Refused 19 9 39)
    ∷ [])
    (finding "TRD;T-1;DE-1;XEER;C0643778W.EU;B;N;100;10000000;53.5;" 100 1_000_000_000_000 (Some (pos 5_350_000)))
    -- price -0.00001 is minus one hundred-thousandth
    ∷ opened 255
    (("TRD;T-1;DE-1;XEER;C0643778W.EU;B;N;100;24;-0.00001;", Accepted)
    ∷ [])
    (finding "TRD;T-1;DE-1;XEER;C0643778W.EU;B;N;100;24;-0.00001;" 100 2_400_000 (Some (negsuc 0)))
    -- a blank price is none, and a blank quantity gets 19
    ∷ opened 255
    (("TRD;T-1;DE-1;XEER;C0643778W.EU;B;N;100;24;;", Accepted)
    ∷ ("TRD;T-2;DE-1;XEER;C0643778W.EU;B;N;100;;53.5;", Refused 19 9 39)
    ∷ [])
    (finding "TRD;T-1;DE-1;XEER;C0643778W.EU;B;N;100;24;;" 100 2_400_000 None)
    -- time 4294967295 passes, and 4294967296 gets 18
    ∷ lines
    (("TRD;T-1;DE-1;XEER;C0643778W.EU;B;N;4294967295;24;53.5;", Accepted)
    ∷ ("TRD;T-2;DE-1;XEER;C0643778W.EU;B;N;4294967296;24;53.5;", Refused 18 8 35)
    ∷ [])
    -- a contract that is not listed gets 31 at XEER, and passes at XBIL
    ∷ lines
    (("TRD;T-1;DE-2;XEER;C0643778W.EU;B;N;100;24;53.5;", Refused 31 3 8)
    ∷ ("TRD;T-1;DE-2;XBIL;C0643778W.EU;B;N;100;24;53.5;", Accepted)
    ∷ [])
    -- New, New
    ∷ lines
    (("TRD;T-1;DE-1;XEER;C0643778W.EU;B;N;100;24;53.5;", Accepted)
    ∷ ("TRD;T-1;DE-1;XEER;C0643778W.EU;B;N;100;24;53.5;", Refused 41 7 33)
    ∷ [])
    -- New, Cancel, New
    ∷ lines
    (("TRD;T-1;DE-1;XEER;C0643778W.EU;B;N;100;24;53.5;", Accepted)
    ∷ ("TRD;T-1;DE-1;XEER;C0643778W.EU;B;C;100;24;53.5;", Accepted)
    ∷ ("TRD;T-1;DE-1;XEER;C0643778W.EU;B;N;100;24;53.5;", Refused 41 7 33)
    ∷ [])
    -- New, Error, New
    ∷ lines
    (("TRD;T-1;DE-1;XEER;C0643778W.EU;B;N;100;24;53.5;", Accepted)
    ∷ ("TRD;T-1;DE-1;XEER;C0643778W.EU;B;E;100;24;53.5;", Accepted)
    ∷ ("TRD;T-1;DE-1;XEER;C0643778W.EU;B;N;100;24;53.5;", Accepted)
    ∷ [])
    -- New, Cancel, Modify
    ∷ lines
    (("TRD;T-1;DE-1;XEER;C0643778W.EU;B;N;100;24;53.5;", Accepted)
    ∷ ("TRD;T-1;DE-1;XEER;C0643778W.EU;B;C;100;24;53.5;", Accepted)
    ∷ ("TRD;T-1;DE-1;XEER;C0643778W.EU;B;M;100;24;53.5;", Refused 42 7 33)
    ∷ [])
    -- New, Cancel, Cancel
    ∷ lines
    (("TRD;T-1;DE-1;XEER;C0643778W.EU;B;N;100;24;53.5;", Accepted)
    ∷ ("TRD;T-1;DE-1;XEER;C0643778W.EU;B;C;100;24;53.5;", Accepted)
    ∷ ("TRD;T-1;DE-1;XEER;C0643778W.EU;B;C;100;24;53.5;", Refused 44 7 33)
    ∷ [])
    -- New, Cancel, Error
    ∷ lines
    (("TRD;T-1;DE-1;XEER;C0643778W.EU;B;N;100;24;53.5;", Accepted)
    ∷ ("TRD;T-1;DE-1;XEER;C0643778W.EU;B;C;100;24;53.5;", Accepted)
    ∷ ("TRD;T-1;DE-1;XEER;C0643778W.EU;B;E;100;24;53.5;", Accepted)
    ∷ [])
    -- a Modify one second before the last time gets 46, and the same second passes
    ∷ lines
    (("TRD;T-1;DE-1;XEER;C0643778W.EU;B;N;100;24;53.5;", Accepted)
    ∷ ("TRD;T-1;DE-1;XEER;C0643778W.EU;B;M;99;24;53.5;", Refused 46 8 35)
    ∷ ("TRD;T-1;DE-1;XEER;C0643778W.EU;B;M;100;24;53.5;", Accepted)
    ∷ [])
    -- with room for one life, a second key's New gets 47, and passes after the first key's Error
    ∷ opened 1
    (("TRD;T-1;DE-1;XEER;C0643778W.EU;B;N;100;24;53.5;", Accepted)
    ∷ ("TRD;T-2;DE-1;XEER;C0643778W.EU;B;N;100;24;53.5;", Refused 47 0 0)
    ∷ ("TRD;T-1;DE-1;XEER;C0643778W.EU;B;E;100;24;53.5;", Accepted)
    ∷ ("TRD;T-2;DE-1;XEER;C0643778W.EU;B;N;100;24;53.5;", Accepted)
    ∷ [])
    []
    -- the lines of the example in the README
    ∷ opened 255
    (("TRD;T-1;DE-1;XEER;C0643778W.EU;B;N;100;24;53.5;", Accepted)
    ∷ ("TRD;T-1;DE-1;XEER;C0643778W.EU;B;M;90;20;53.5;", Refused 46 8 35)
    ∷ ("TRD;T-1;DE-1;XEER;C0643778W.EU;B;M;110;20;53.5;", Accepted)
    ∷ ("TRD;T-2;DE-1;XEER;C06AG978W.EU;S;E;120;5;53.5;", Refused 45 7 33)
    ∷ [])
    ((Total, Accepted) ∷ (Close 0, Receipt 4 2 2) ∷ [])
    ∷ []

abbrev pub CasesStand : Type 0
CasesStand = AllByRecursion Stands cases
