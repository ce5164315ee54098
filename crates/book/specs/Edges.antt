-- Each row of the tables, and each limit on both sides.
use Rattle.std.specs.Prelude.{◌≡◌, ℕ, ◌+◌, List, [], ◌∷◌, ◌++◌, replicate, ℤ, pos, negsuc, Some, None, codes, Option}
use Prim.Native.String.{String}
use Rattle.std.specs.List.{AllByRecursion}
use Rattle.text.specs.declared.words.Kind.TheVariants.{Trade}
use Rattle.text.specs.declared.words.Side.TheVariants.{Sell}
use Rattle.text.specs.Bytes.{Bytes}
use Rattle.contract.specs.ContractList.{Contract, offered}
use Rattle.filing.specs.Files.{Identified, Ended, File, named_file, at_stage}
use Rattle.life.specs.declared.life.State.{State}
use Rattle.life.specs.declared.life.State.TheVariants.{Open, Cancelled}
use Rattle.life.specs.Parts.{KeyParts, LifeParts}
use Rattle.life.specs.Lives.{Lives}
use Rattle.book.specs.Book.{Book, Call, AddEntity, AddContract, NameFile, Identify, Withdraw, Close, Judge, LookUp, Total, Answer, Accepted, Refused, Receipt, Found, end}
use Rattle.book.specs.Laws.{log, survivors}
use Rattle.book.specs.Totals.{totals}
use Rattle.book.specs.Cases.{Case, judged_lines, Stands}

-- an identified file with n lines, all refused
abbrev pub file_with : ℕ → File
file_with n = record { stage = Identified; entity = codes "A0000116N.DE"; judged = n; accepted = 0; refused = n }

abbrev pub listed_as : String → Contract
listed_as s = offered (codes s)

-- one entity; contracts without index names, with one and with two; a fresh file, one with room for a line, one only named, and one ended
abbrev pub with_capacity : ℕ → Book
with_capacity n = record {
  capacity = n;
  entities = codes "A0000116N.DE" ∷ [];
  contracts = listed_as "DE-1;FW;;" ∷ listed_as "DE-2;FU;;EEX" ∷ listed_as "DE-3;OP;A;EEX,EPEX" ∷ [];
  files = file_with 0 ∷ file_with 999_999 ∷ named_file (codes "A0000116N.DE") ∷ at_stage Ended (file_with 5) ∷ [];
  lives = [];
}

abbrev pub ready : Book
ready = with_capacity 2

abbrev pub roomy : Book
roomy = with_capacity 7

-- a book with these entities and contracts, and a fresh file
abbrev pub near : List Bytes → List Contract → Book
near es cs = record { capacity = 2; entities = es; contracts = cs; files = file_with 0 ∷ []; lives = [] }

abbrev pub from_book : Book → List (Call × Answer) → Case
from_book b xs = record { before = b; steps = xs }

abbrev pub edge : List (Call × Answer) → Case
edge = from_book ready

-- lines judged in the first file
abbrev pub judging : List (String × Answer) → Case
judging xs = edge (judged_lines xs)

abbrev pub life : State → ℕ → ℕ → Option ℤ → LifeParts
life s t q p = record { in_state = s; at_time = t; with_quantity = q; with_price = p }

abbrev pub long_id : ℕ → Bytes
long_id n = replicate n 65

-- the forms of fields
abbrev pub of_forms : List Case
of_forms =
    -- 512 bytes are read, 513 are not
    edge
    ((Judge 0 (replicate 512 65), Refused 2 0 0)
    ∷ (Judge 0 (replicate 513 65), Refused 1 0 0)
    ∷ (Judge 0 [], Refused 1 0 0)
    ∷ [])
    -- ten fields, and twelve
    ∷ judging
    (("TRD;T;;XBIL;C0643778W.EU;S;N;9;1;1", Refused 2 0 0)
    ∷ ("TRD;T;;XBIL;C0643778W.EU;S;N;9;1;1;;", Refused 2 0 0)
    ∷ (";;;;;;;;;;", Refused 11 1 0)
    ∷ [])
    -- the first field that lacks its form, from the left
    ∷ judging
    (("TRX;;DE,1;XEEr;C0643778W.EU1;X;X;;;1.;,", Refused 11 1 0)
    ∷ ("TRD;;DE,1;XEEr;C0643778W.EU1;X;X;;;1.;,", Refused 12 2 4)
    ∷ ("TRD;T;DE,1;XEEr;C0643778W.EU1;X;X;;;1.;,", Refused 13 3 6)
    ∷ ("TRD;T;;XEEr;C0643778W.EU1;X;X;;;1.;,", Refused 14 4 7)
    ∷ ("TRD;T;;XEER;C0643778W.EU1;X;X;;;1.;,", Refused 15 5 12)
    ∷ ("TRD;T;;XEER;C0643778W.EU;X;X;;;1.;,", Refused 16 6 25)
    ∷ ("TRD;T;;XEER;C0643778W.EU;S;X;;;1.;,", Refused 17 7 27)
    ∷ ("TRD;T;;XEER;C0643778W.EU;S;N;;;1.;,", Refused 18 8 29)
    ∷ ("TRD;T;;XEER;C0643778W.EU;S;N;1;;1.;,", Refused 19 9 31)
    ∷ ("TRD;T;;XEER;C0643778W.EU;S;N;1;1;1.;,", Refused 20 10 33)
    ∷ ("TRD;T;;XEER;C0643778W.EU;S;N;1;1;1;,", Refused 21 11 35)
    ∷ [])
    -- kind
    ∷ judging
    (("ORD;T;;XBIL;C0643778W.EU;S;N;9;1;1;", Accepted)
    ∷ (";T;;XBIL;C0643778W.EU;S;N;9;1;1;", Refused 11 1 0)
    ∷ ("trd;T;;XBIL;C0643778W.EU;S;N;9;1;1;", Refused 11 1 0)
    ∷ ("TRDX;T;;XBIL;C0643778W.EU;S;N;9;1;1;", Refused 11 1 0)
    ∷ [])
    -- the first and last byte of an id, and the bytes beside them; a comma
    ∷ judging
    (("TRD;!;;XBIL;C0643778W.EU;S;N;9;1;1;", Accepted)
    ∷ ("TRD;~;;XBIL;C0643778W.EU;S;N;9;1;1;", Accepted)
    ∷ ("TRD; ;;XBIL;C0643778W.EU;S;N;9;1;1;", Refused 12 2 4)
    ∷ ("TRD;\u{7f};;XBIL;C0643778W.EU;S;N;9;1;1;", Refused 12 2 4)
    ∷ ("TRD;a,b;;XBIL;C0643778W.EU;S;N;9;1;1;", Refused 12 2 4)
    ∷ [])
    -- venue
    ∷ judging
    (("TRD;T;DE-1;1A2B;C0643778W.EU;S;N;9;1;1;", Accepted)
    ∷ ("TRD;T;;XEE;C0643778W.EU;S;N;9;1;1;", Refused 14 4 7)
    ∷ ("TRD;T;;XEERR;C0643778W.EU;S;N;9;1;1;", Refused 14 4 7)
    ∷ ("TRD;T;;XE-R;C0643778W.EU;S;N;9;1;1;", Refused 14 4 7)
    ∷ [])
    -- participant
    ∷ judging
    (("TRD;T;;XBIL;123456789.AA;S;N;9;1;1;", Accepted)
    ∷ ("TRD;T;;XBIL;C0643778.EU;S;N;9;1;1;", Refused 15 5 12)
    ∷ ("TRD;T;;XBIL;C0643778WW.EU;S;N;9;1;1;", Refused 15 5 12)
    ∷ ("TRD;T;;XBIL;C0643778W-EU;S;N;9;1;1;", Refused 15 5 12)
    ∷ ("TRD;T;;XBIL;C0643778W.E1;S;N;9;1;1;", Refused 15 5 12)
    ∷ ("TRD;T;;XBIL;c0643778W.EU;S;N;9;1;1;", Refused 15 5 12)
    ∷ ("TRD;T;;XBIL;C0643778W.E;S;N;9;1;1;", Refused 15 5 12)
    ∷ ("TRD;T;;XBIL;C0643778W.EUX;S;N;9;1;1;", Refused 15 5 12)
    ∷ [])
    -- side and action
    ∷ judging
    (("TRD;T;;XBIL;C0643778W.EU;B;N;9;1;1;", Accepted)
    ∷ ("TRD;T;;XBIL;C0643778W.EU;;N;9;1;1;", Refused 16 6 25)
    ∷ ("TRD;T;;XBIL;C0643778W.EU;b;N;9;1;1;", Refused 16 6 25)
    ∷ ("TRD;T;;XBIL;C0643778W.EU;SB;N;9;1;1;", Refused 16 6 25)
    ∷ ("TRD;T;;XBIL;C0643778W.EU;S;;9;1;1;", Refused 17 7 27)
    ∷ ("TRD;T;;XBIL;C0643778W.EU;S;n;9;1;1;", Refused 17 7 27)
    ∷ ("TRD;T;;XBIL;C0643778W.EU;S;NM;9;1;1;", Refused 17 7 27)
    ∷ [])
    -- time: 1 to 10 digits, at most 4294967295
    ∷ judging
    (("TRD;T;;XBIL;C0643778W.EU;S;N;;1;1;", Refused 18 8 29)
    ∷ ("TRD;T;;XBIL;C0643778W.EU;S;N;4294967296;1;1;", Refused 18 8 29)
    ∷ ("TRD;T;;XBIL;C0643778W.EU;S;N;00000000009;1;1;", Refused 18 8 29)
    ∷ ("TRD;T;;XBIL;C0643778W.EU;S;N;-1;1;1;", Refused 18 8 29)
    ∷ ("TRD;T;;XBIL;C0643778W.EU;S;N;1.0;1;1;", Refused 18 8 29)
    ∷ ("TRD;T;;XBIL;C0643778W.EU;S;N;4294967295;1;1;", Accepted)
    ∷ ("TRD;U;;XBIL;C0643778W.EU;S;N;0000000000;1;1;", Accepted)
    ∷ [])
    -- quantity: 1 to 8 digits, then a dot and 1 to 5 digits, at most 10000000
    ∷ judging
    (("TRD;T;;XBIL;C0643778W.EU;S;N;9;;1;", Refused 19 9 31)
    ∷ ("TRD;T;;XBIL;C0643778W.EU;S;N;9;.5;1;", Refused 19 9 31)
    ∷ ("TRD;T;;XBIL;C0643778W.EU;S;N;9;1.;1;", Refused 19 9 31)
    ∷ ("TRD;T;;XBIL;C0643778W.EU;S;N;9;1.5.5;1;", Refused 19 9 31)
    ∷ ("TRD;T;;XBIL;C0643778W.EU;S;N;9;-1;1;", Refused 19 9 31)
    ∷ ("TRD;T;;XBIL;C0643778W.EU;S;N;9;000000001;1;", Refused 19 9 31)
    ∷ ("TRD;T;;XBIL;C0643778W.EU;S;N;9;1.123456;1;", Refused 19 9 31)
    ∷ ("TRD;T;;XBIL;C0643778W.EU;S;N;9;10000000.00001;1;", Refused 19 9 31)
    ∷ ("TRD;T;;XBIL;C0643778W.EU;S;N;9;99999999;1;", Refused 19 9 31)
    ∷ ("TRD;T;;XBIL;C0643778W.EU;S;N;9;10000000.00000;1;", Accepted)
    ∷ ("TRD;U;;XBIL;C0643778W.EU;S;N;9;00000000;1;", Accepted)
    ∷ [])
    -- price: blank, or an optional `-`, 1 to 7 digits, then a dot and 1 to 5 digits; at most 1000000 either way
    ∷ judging
    (("TRD;T;;XBIL;C0643778W.EU;S;N;9;1;-;", Refused 20 10 33)
    ∷ ("TRD;T;;XBIL;C0643778W.EU;S;N;9;1;--1;", Refused 20 10 33)
    ∷ ("TRD;T;;XBIL;C0643778W.EU;S;N;9;1;+1;", Refused 20 10 33)
    ∷ ("TRD;T;;XBIL;C0643778W.EU;S;N;9;1;1.;", Refused 20 10 33)
    ∷ ("TRD;T;;XBIL;C0643778W.EU;S;N;9;1;00000001;", Refused 20 10 33)
    ∷ ("TRD;T;;XBIL;C0643778W.EU;S;N;9;1;-00000001;", Refused 20 10 33)
    ∷ ("TRD;T;;XBIL;C0643778W.EU;S;N;9;1;-1.123456;", Refused 20 10 33)
    ∷ ("TRD;T;;XBIL;C0643778W.EU;S;N;9;1;-1.;", Refused 20 10 33)
    ∷ ("TRD;T;;XBIL;C0643778W.EU;S;N;9;1;1.123456;", Refused 20 10 33)
    ∷ ("TRD;T;;XBIL;C0643778W.EU;S;N;9;1;1000000.00001;", Refused 20 10 33)
    ∷ ("TRD;T;;XBIL;C0643778W.EU;S;N;9;1;-1000000.00001;", Refused 20 10 33)
    ∷ ("TRD;T;;XBIL;C0643778W.EU;S;N;9;1;1000000;", Accepted)
    ∷ ("TRD;U;;XBIL;C0643778W.EU;S;N;9;1;-1000000.00000;", Accepted)
    ∷ [])
    -- index names: at most 8, none blank, repeats allowed
    ∷ judging
    (("TRD;T;;XBIL;C0643778W.EU;S;N;9;1;1;a,b,c,d,e,f,g,h,i", Refused 21 11 35)
    ∷ ("TRD;T;;XBIL;C0643778W.EU;S;N;9;1;1;,", Refused 21 11 35)
    ∷ ("TRD;T;;XBIL;C0643778W.EU;S;N;9;1;1;a,", Refused 21 11 35)
    ∷ ("TRD;T;;XBIL;C0643778W.EU;S;N;9;1;1;,a", Refused 21 11 35)
    ∷ ("TRD;T;;XBIL;C0643778W.EU;S;N;9;1;1;a b", Refused 21 11 35)
    ∷ ("TRD;T;;XBIL;C0643778W.EU;S;N;9;1;1;a,b,c,d,e,f,g,h", Accepted)
    ∷ ("TRD;U;;XBIL;C0643778W.EU;S;N;9;1;1;a,a", Accepted)
    ∷ [])
    -- what is read: half a unit is 50000 hundred-thousandths, and `-0` is zero
    ∷ edge
    ((Judge 0 (codes "TRD;T;;XBIL;C0643778W.EU;S;N;9;0.5;-0;"), Accepted)
    ∷ (LookUp (codes "TRD;T;;XBIL;C0643778W.EU;S;N;9;0.5;-0;"), Found (Some (life Open 9 50_000 (Some (pos 0)))))
    ∷ [])
    -- leading zeros count for nothing, and missing digits after the dot are zeros
    ∷ edge
    ((Judge 0 (codes "TRD;T;;XBIL;C0643778W.EU;S;N;9;00000001.00001;-0000012.3;"), Accepted)
    ∷ (LookUp (codes "TRD;T;;XBIL;C0643778W.EU;S;N;9;1.00001;-12.3;"), Found (Some (life Open 9 100_001 (Some (negsuc 1_229_999)))))
    ∷ [])
    ∷ []

-- the contract list
abbrev pub of_lists : List Case
of_lists =
    -- a contract that is not listed; a blank one
    judging
    (("TRD;T;DE-4;XEER;C0643778W.EU;S;N;9;1;1;", Refused 31 3 6)
    ∷ ("TRD;T;;XEER;C0643778W.EU;S;N;9;1;1;", Refused 31 3 6)
    ∷ ("TRD;T;DE-1;XEER;C0643778W.EU;S;N;9;1;1;", Accepted)
    ∷ [])
    -- an index name that is not the contract's
    ∷ judging
    (("TRD;T;DE-1;XEER;C0643778W.EU;S;N;9;1;1;EEX", Refused 32 11 39)
    ∷ ("TRD;T;DE-2;XEER;C0643778W.EU;S;N;9;1;1;EEX,EPEX", Refused 32 11 39)
    ∷ ("TRD;T;DE-2;XEER;C0643778W.EU;S;N;9;1;1;EEX", Accepted)
    ∷ [])
    -- no index name, where the contract has one and where it has two
    ∷ judging
    (("TRD;T;DE-2;XEER;C0643778W.EU;S;N;9;1;1;", Accepted)
    ∷ ("TRD;T;DE-3;XEER;C0643778W.EU;S;N;9;1;1;", Refused 33 11 39)
    ∷ ("TRD;T;DE-3;XEER;C0643778W.EU;S;N;9;1;1;EPEX,EPEX", Accepted)
    ∷ [])
    -- the first of the three that applies
    ∷ judging
    (("TRD;T;DE-4;XEER;C0643778W.EU;S;N;9;1;1;EEX", Refused 31 3 6)
    ∷ ("TRD;T;DE-3;XEER;C0643778W.EU;S;N;9;1;1;x", Refused 32 11 39)
    ∷ [])
    -- at XBIL none of the three applies, and the contract number is 0 whatever the contract
    ∷ judging
    (("TRD;T;DE-3;XBIL;C0643778W.EU;S;N;9;1;1;", Accepted)
    ∷ ("TRD;T;DE-4;XBIL;C0643778W.EU;S;N;9;1;1;x", Refused 41 7 31)
    ∷ ("TRD;T;;XBIL;C0643778W.EU;S;N;9;1;1;", Refused 41 7 27)
    ∷ [])
    -- the field of a line comes before its contract, and its contract before its life
    ∷ judging
    (("TRD;T;DE-4;XEER;C0643778W.EU;S;M;9;1;x;", Refused 20 10 37)
    ∷ ("TRD;T;DE-4;XEER;C0643778W.EU;S;M;9;1;1;", Refused 31 3 6)
    ∷ ("TRD;T;DE-3;XEER;C0643778W.EU;S;M;9;1;1;", Refused 33 11 39)
    ∷ [])
    -- adding: four fields, each of its form, from the left
    ∷ edge
    ((AddContract (codes "DE-4;FW;"), Refused 51 0 0)
    ∷ (AddContract (codes "DE-4;FW;;;"), Refused 51 0 0)
    ∷ (AddContract (codes ""), Refused 51 0 0)
    ∷ (AddContract (codes ";FW;;"), Refused 51 1 0)
    ∷ (AddContract (codes "DE,4;FW;;"), Refused 51 1 0)
    ∷ (AddContract (codes "DE-4;XX;;"), Refused 51 2 5)
    ∷ (AddContract (codes "DE-4;;;"), Refused 51 2 5)
    ∷ (AddContract (codes "DE-4;fw;;"), Refused 51 2 5)
    ∷ (AddContract (codes "DE-4;OP_;A;"), Refused 51 2 5)
    ∷ (AddContract (codes "DE-4;FW;a;"), Refused 51 3 8)
    ∷ (AddContract (codes "DE-4;FW;AB;"), Refused 51 3 8)
    ∷ (AddContract (codes "DE-4;FW;;,"), Refused 51 4 9)
    ∷ (AddContract (codes "DE-4;FW;;a,b,c,d,e,f,g,h,i"), Refused 51 4 9)
    ∷ (AddContract (codes ";XX;a;,"), Refused 51 1 0)
    ∷ (AddContract (codes "DE-4;XX;a;,"), Refused 51 2 5)
    ∷ (AddContract (codes "DE-4;FW;a;,"), Refused 51 3 8)
    ∷ (AddContract (codes "DE-4;SWG;Z;a,b,c,d,e,f,g,h"), Accepted)
    ∷ [])
    -- adding: an id listed before, a style missing, a name twice, in that order
    ∷ edge
    ((AddContract (codes "DE-3;OP;;a,a"), Refused 52 1 0)
    ∷ (AddContract (codes "DE-4;OP;;a,a"), Refused 53 3 8)
    ∷ (AddContract (codes "DE-4;OP_FU;;a,a"), Refused 53 3 11)
    ∷ (AddContract (codes "DE-4;OP_FW;;"), Refused 53 3 11)
    ∷ (AddContract (codes "DE-4;OP_SW;;"), Refused 53 3 11)
    ∷ (AddContract (codes "DE-4;OP_SP;;a,b,a"), Refused 54 4 12)
    ∷ (AddContract (codes "DE-4;OP_SP;;a"), Accepted)
    ∷ (AddContract (codes "DE-4;OP_SP;;a"), Refused 52 1 0)
    ∷ [])
    -- a type that needs no style may have one; each that needs one may be added with it
    ∷ edge
    ((AddContract (codes "a;AU;X;"), Accepted)
    ∷ (AddContract (codes "b;CO;;"), Accepted)
    ∷ (AddContract (codes "c;FU;;"), Accepted)
    ∷ (AddContract (codes "d;OP_FU;X;"), Accepted)
    ∷ (AddContract (codes "e;OP_FW;X;"), Accepted)
    ∷ (AddContract (codes "f;OP_SW;X;"), Accepted)
    ∷ (AddContract (codes "g;OT;;"), Accepted)
    ∷ (AddContract (codes "h;SP;;"), Accepted)
    ∷ (AddContract (codes "i;SW;;"), Accepted)
    ∷ (AddContract (codes "j;SWG;;"), Accepted)
    ∷ [])
    -- ids differ by case
    ∷ edge
    ((AddContract (codes "de-1;FW;;"), Accepted)
    ∷ (AddContract (codes "DE-1;FW;;"), Refused 52 1 0)
    ∷ [])
    -- a contract listed later serves later lines
    ∷ edge
    ((Judge 0 (codes "TRD;T;DE-4;XEER;C0643778W.EU;S;N;9;1;1;"), Refused 31 3 6)
    ∷ (AddContract (codes "DE-4;FW;;"), Accepted)
    ∷ (Judge 0 (codes "TRD;T;DE-4;XEER;C0643778W.EU;S;N;9;1;1;"), Accepted)
    ∷ [])
    ∷ []

-- lives
abbrev pub of_lives : List Case
of_lives =
    -- without a life: Modify, Cancel and Error
    judging
    (("TRD;T;;XBIL;C0643778W.EU;S;M;9;1;1;", Refused 42 7 27)
    ∷ ("TRD;T;;XBIL;C0643778W.EU;S;C;9;1;1;", Refused 43 7 27)
    ∷ ("TRD;T;;XBIL;C0643778W.EU;S;E;9;1;1;", Refused 45 7 27)
    ∷ [])
    -- a second before the last time, and at it: Modify
    ∷ judging
    (("TRD;T;;XBIL;C0643778W.EU;S;N;9;1;1;", Accepted)
    ∷ ("TRD;T;;XBIL;C0643778W.EU;S;M;8;1;1;", Refused 46 8 29)
    ∷ ("TRD;T;;XBIL;C0643778W.EU;S;M;9;1;1;", Accepted)
    ∷ ("TRD;T;;XBIL;C0643778W.EU;S;M;10;1;1;", Accepted)
    ∷ ("TRD;T;;XBIL;C0643778W.EU;S;M;9;1;1;", Refused 46 8 29)
    ∷ [])
    -- a second before the last time, and at it: Cancel and Error
    ∷ judging
    (("TRD;T;;XBIL;C0643778W.EU;S;N;9;1;1;", Accepted)
    ∷ ("TRD;T;;XBIL;C0643778W.EU;S;C;8;1;1;", Refused 46 8 29)
    ∷ ("TRD;T;;XBIL;C0643778W.EU;S;E;8;1;1;", Refused 46 8 29)
    ∷ ("TRD;T;;XBIL;C0643778W.EU;S;C;9;1;1;", Accepted)
    ∷ ("TRD;T;;XBIL;C0643778W.EU;S;E;8;1;1;", Refused 46 8 29)
    ∷ ("TRD;T;;XBIL;C0643778W.EU;S;E;9;1;1;", Accepted)
    ∷ [])
    -- a New after an Error may be earlier
    ∷ judging
    (("TRD;T;;XBIL;C0643778W.EU;S;N;9;1;1;", Accepted)
    ∷ ("TRD;T;;XBIL;C0643778W.EU;S;E;10;1;1;", Accepted)
    ∷ ("TRD;T;;XBIL;C0643778W.EU;S;N;1;1;1;", Accepted)
    ∷ ("TRD;T;;XBIL;C0643778W.EU;S;M;1;1;1;", Accepted)
    ∷ [])
    -- a Cancel moves the last time on
    ∷ judging
    (("TRD;T;;XBIL;C0643778W.EU;S;N;9;1;1;", Accepted)
    ∷ ("TRD;T;;XBIL;C0643778W.EU;S;C;12;1;1;", Accepted)
    ∷ ("TRD;T;;XBIL;C0643778W.EU;S;E;11;1;1;", Refused 46 8 29)
    ∷ ("TRD;T;;XBIL;C0643778W.EU;S;E;12;1;1;", Accepted)
    ∷ [])
    -- the state comes before the time
    ∷ judging
    (("TRD;T;;XBIL;C0643778W.EU;S;N;9;1;1;", Accepted)
    ∷ ("TRD;T;;XBIL;C0643778W.EU;S;C;9;1;1;", Accepted)
    ∷ ("TRD;T;;XBIL;C0643778W.EU;S;M;8;1;1;", Refused 42 7 27)
    ∷ ("TRD;T;;XBIL;C0643778W.EU;S;C;8;1;1;", Refused 44 7 27)
    ∷ ("TRD;T;;XBIL;C0643778W.EU;S;N;8;1;1;", Refused 41 7 27)
    ∷ [])
    -- a struck life is gone: Cancel, Modify and Error after an Error
    ∷ judging
    (("TRD;T;;XBIL;C0643778W.EU;S;N;9;1;1;", Accepted)
    ∷ ("TRD;T;;XBIL;C0643778W.EU;S;C;9;1;1;", Accepted)
    ∷ ("TRD;T;;XBIL;C0643778W.EU;S;E;9;1;1;", Accepted)
    ∷ ("TRD;T;;XBIL;C0643778W.EU;S;C;9;1;1;", Refused 43 7 27)
    ∷ ("TRD;T;;XBIL;C0643778W.EU;S;M;9;1;1;", Refused 42 7 27)
    ∷ ("TRD;T;;XBIL;C0643778W.EU;S;E;9;1;1;", Refused 45 7 27)
    ∷ [])
    -- a Cancel keeps quantity and price
    ∷ edge
    ((Judge 0 (codes "TRD;T;;XBIL;C0643778W.EU;S;N;9;1;-2;"), Accepted)
    ∷ (Judge 0 (codes "TRD;T;;XBIL;C0643778W.EU;S;C;10;3;4;"), Accepted)
    ∷ (LookUp (codes "TRD;T;;XBIL;C0643778W.EU;S;N;9;1;1;"), Found (Some (life Cancelled 10 100_000 (Some (negsuc 199_999)))))
    ∷ [])
    -- a Modify replaces them, by a blank price too
    ∷ edge
    ((Judge 0 (codes "TRD;T;;XBIL;C0643778W.EU;S;N;9;1;-2;"), Accepted)
    ∷ (Judge 0 (codes "TRD;T;;XBIL;C0643778W.EU;S;M;10;3;;"), Accepted)
    ∷ (LookUp (codes "TRD;T;;XBIL;C0643778W.EU;S;N;9;1;1;"), Found (Some (life Open 10 300_000 None)))
    ∷ [])
    -- a refused line changes no life
    ∷ edge
    ((Judge 0 (codes "TRD;T;;XBIL;C0643778W.EU;S;N;9;1;-2;"), Accepted)
    ∷ (Judge 0 (codes "TRD;T;;XBIL;C0643778W.EU;S;M;8;3;1;"), Refused 46 8 29)
    ∷ (Judge 0 (codes "TRD;T;;XBIL;C0643778W.EU;S;N;9;3;1;"), Refused 41 7 27)
    ∷ (LookUp (codes "TRD;T;;XBIL;C0643778W.EU;S;N;9;1;1;"), Found (Some (life Open 9 100_000 (Some (negsuc 199_999)))))
    ∷ [])
    -- looking up: none; the rules of the line, without those of the life; nothing is counted or changed
    ∷ edge
    ((LookUp (codes "TRD;T;;XBIL;C0643778W.EU;S;N;9;1;1;"), Found None)
    ∷ (LookUp (codes "TRD;T;;XBIL;C0643778W.EU;S;E;0;1;1;"), Found None)
    ∷ (LookUp (codes ""), Refused 1 0 0)
    ∷ (LookUp (codes "TRD;T;;XBIL;C0643778W.EU;S;N;9;1;x;"), Refused 20 10 33)
    ∷ (LookUp (codes "TRD;T;;XEER;C0643778W.EU;S;N;9;1;1;"), Refused 31 3 6)
    ∷ (LookUp (codes "TRD;T;DE-3;XEER;C0643778W.EU;S;N;9;1;1;"), Refused 33 11 39)
    ∷ (Judge 0 (codes "TRD;T;;XBIL;C0643778W.EU;S;N;9;1;1;"), Accepted)
    ∷ (Close 0, Receipt 1 1 0)
    ∷ (LookUp (codes "TRD;T;;XBIL;C0643778W.EU;S;N;9;1;1;"), Found (Some (life Open 9 100_000 (Some (pos 100_000)))))
    ∷ [])
    -- room for two: the order puts 41 before 47
    ∷ judging
    (("TRD;T;;XBIL;C0643778W.EU;S;N;9;1;1;", Accepted)
    ∷ ("ORD;T;;XBIL;C0643778W.EU;S;N;9;1;1;", Accepted)
    ∷ ("ORD;T;;XBIL;C0643778W.EU;B;N;9;1;1;", Refused 47 0 0)
    ∷ ("ORD;T;;XBIL;C0643778W.EU;S;N;9;1;1;", Refused 41 7 27)
    ∷ ("ORD;T;;XBIL;C0643778W.EU;B;M;9;1;1;", Refused 42 7 27)
    ∷ ("ORD;T;;XBIL;C0643778W.EU;S;C;9;1;1;", Accepted)
    ∷ ("ORD;T;;XBIL;C0643778W.EU;B;N;9;1;1;", Refused 47 0 0)
    ∷ ("ORD;T;;XBIL;C0643778W.EU;S;E;9;1;1;", Accepted)
    ∷ ("ORD;T;;XBIL;C0643778W.EU;B;N;9;1;1;", Accepted)
    ∷ [])
    -- keys that differ in one of the six parts are not the same
    ∷ from_book roomy
    ((Judge 0 (codes "TRD;T;DE-1;XEER;C0643778W.EU;S;N;9;1;1;"), Accepted)
    ∷ (Judge 0 (codes "ORD;T;DE-1;XEER;C0643778W.EU;S;N;9;1;1;"), Accepted)
    ∷ (Judge 0 (codes "TRD;U;DE-1;XEER;C0643778W.EU;S;N;9;1;1;"), Accepted)
    ∷ (Judge 0 (codes "TRD;T;DE-2;XEER;C0643778W.EU;S;N;9;1;1;"), Accepted)
    ∷ (Judge 0 (codes "TRD;T;DE-1;XEEE;C0643778W.EU;S;N;9;1;1;"), Accepted)
    ∷ (Judge 0 (codes "TRD;T;DE-1;XEER;C0643778W.EV;S;N;9;1;1;"), Accepted)
    ∷ (Judge 0 (codes "TRD;T;DE-1;XEER;C0643778W.EU;B;N;9;1;1;"), Accepted)
    ∷ (Judge 0 (codes "TRD;T;DE-1;XEER;C0643778W.EU;S;N;10;1;1;"), Refused 41 7 31)
    ∷ (Judge 0 (codes "TRD;T;DE-1;XEEF;C0643778W.EU;S;N;9;1;1;"), Refused 47 0 0)
    ∷ [])
    -- no room at all
    ∷ from_book (with_capacity 0)
    ((Judge 0 (codes "TRD;T;;XBIL;C0643778W.EU;S;N;9;1;1;"), Refused 47 0 0)
    ∷ (LookUp (codes "TRD;T;;XBIL;C0643778W.EU;S;N;9;1;1;"), Found None)
    ∷ (Judge 0 (codes "TRD;T;;XBIL;C0643778W.EU;S;E;9;1;1;"), Refused 45 7 27)
    ∷ [])
    ∷ []

-- entities, file names and files
abbrev pub of_files : List Case
of_files =
    -- the millionth line and the one after it, which is not counted
    edge
    ((Judge 1 (codes "TRD;T;;XBIL;C0643778W.EU;S;N;9;1;1;"), Accepted)
    ∷ (Judge 1 (codes ""), Refused 9 0 0)
    ∷ (Judge 1 (codes "TRD;T;;XBIL;C0643778W.EU;S;E;9;1;1;"), Refused 9 0 0)
    ∷ (Close 1, Receipt 1_000_000 1 999_999)
    ∷ (Close 1, Refused 66 0 0)
    ∷ (Judge 1 (codes "TRD;T;;XBIL;C0643778W.EU;S;N;9;1;1;"), Refused 66 0 0)
    ∷ [])
    -- a refused line may be the millionth
    ∷ edge
    ((Judge 1 (codes ""), Refused 1 0 0)
    ∷ (Judge 1 (codes "TRD;T;;XBIL;C0643778W.EU;S;N;9;1;1;"), Refused 9 0 0)
    ∷ (Close 1, Receipt 1_000_000 0 1_000_000)
    ∷ [])
    -- a file only named: identified once, by the code of its name
    ∷ edge
    ((Judge 2 (codes ""), Refused 66 0 0)
    ∷ (Close 2, Refused 66 0 0)
    ∷ (Identify 2 (codes "A0000116N.DF"), Refused 65 0 0)
    ∷ (Identify 2 (codes ""), Refused 65 0 0)
    ∷ (Identify 2 (codes "A0000116N.DE"), Accepted)
    ∷ (Identify 2 (codes "A0000116N.DE"), Refused 66 0 0)
    ∷ (Identify 2 (codes "A0000116N.DF"), Refused 66 0 0)
    ∷ (Withdraw 2, Refused 66 0 0)
    ∷ (Judge 2 (codes ""), Refused 1 0 0)
    ∷ (Close 2, Receipt 1 0 1)
    ∷ [])
    -- withdrawn, ended and never named files
    ∷ edge
    ((Withdraw 2, Receipt 0 0 0)
    ∷ (Withdraw 2, Refused 66 0 0)
    ∷ (Identify 2 (codes "A0000116N.DE"), Refused 66 0 0)
    ∷ (Withdraw 3, Refused 66 0 0)
    ∷ (Close 3, Refused 66 0 0)
    ∷ (Judge 3 (codes "TRD;T;;XBIL;C0643778W.EU;S;N;9;1;1;"), Refused 66 0 0)
    ∷ (Close 4, Refused 66 0 0)
    ∷ (Judge 4 (codes ""), Refused 66 0 0)
    ∷ (Identify 4 (codes "A0000116N.DE"), Refused 66 0 0)
    ∷ (Withdraw 4, Refused 66 0 0)
    ∷ [])
    -- lines count in their own file
    ∷ edge
    ((Judge 0 (codes "TRD;T;;XBIL;C0643778W.EU;S;N;9;1;1;"), Accepted)
    ∷ (Judge 0 (codes "TRD;T;;XBIL;C0643778W.EU;S;N;9;1;1;"), Refused 41 7 27)
    ∷ (Judge 0 (codes ""), Refused 1 0 0)
    ∷ (Close 0, Receipt 3 1 2)
    ∷ (Withdraw 2, Receipt 0 0 0)
    ∷ [])
    -- the entity must be known, and the one in the name
    ∷ edge
    ((NameFile (codes "20150715_REMITTable1_V1_A0000116N.DF_1.xml"), Accepted)
    ∷ (Identify 4 (codes "A0000116N.DF"), Refused 65 0 0)
    ∷ (Identify 4 (codes "A0000116N.DE"), Refused 65 0 0)
    ∷ (AddEntity (codes "A0000116N.De"), Refused 61 0 0)
    ∷ (AddEntity (codes "A0000116N.DE1"), Refused 61 0 0)
    ∷ (AddEntity (codes "A0000116N.DEX"), Refused 61 0 0)
    ∷ (AddEntity (codes ""), Refused 61 0 0)
    ∷ (AddEntity (codes "A0000116N.DE"), Refused 62 0 0)
    ∷ (AddEntity (codes "A0000116N.DF"), Accepted)
    ∷ (AddEntity (codes "A0000116N.DF"), Refused 62 0 0)
    ∷ (Identify 4 (codes "A0000116N.DE"), Refused 65 0 0)
    ∷ (Identify 4 (codes "A0000116N.DF"), Accepted)
    ∷ [])
    -- file names off by one byte, and names at their limits
    ∷ edge
    ((NameFile (codes ""), Refused 64 0 0)
    ∷ (NameFile (codes "2015071_R_V1_A0000116N.DE_1.xml"), Refused 64 0 0)
    ∷ (NameFile (codes "201507150_R_V1_A0000116N.DE_1.xml"), Refused 64 0 0)
    ∷ (NameFile (codes "2015071a_R_V1_A0000116N.DE_1.xml"), Refused 64 0 0)
    ∷ (NameFile (codes "20150715__V1_A0000116N.DE_1.xml"), Refused 64 0 0)
    ∷ (NameFile (codes "20150715_R-T_V1_A0000116N.DE_1.xml"), Refused 64 0 0)
    ∷ (NameFile (codes "20150715_R_v1_A0000116N.DE_1.xml"), Refused 64 0 0)
    ∷ (NameFile (codes "20150715_R_V_A0000116N.DE_1.xml"), Refused 64 0 0)
    ∷ (NameFile (codes "20150715_R_V12_A0000116N.DE_1.xml"), Refused 64 0 0)
    ∷ (NameFile (codes "20150715_R_Vx_A0000116N.DE_1.xml"), Refused 64 0 0)
    ∷ (NameFile (codes "20150715_R_V1_A0000116N.De_1.xml"), Refused 64 0 0)
    ∷ (NameFile (codes "20150715_R_V1_A0000116N.D_1.xml"), Refused 64 0 0)
    ∷ (NameFile (codes "20150715_R_V1_A0000116N.DE_.xml"), Refused 64 0 0)
    ∷ (NameFile (codes "20150715_R_V1_A0000116N.DE_1234567890.xml"), Refused 64 0 0)
    ∷ (NameFile (codes "20150715_R_V1_A0000116N.DE_1a.xml"), Refused 64 0 0)
    ∷ (NameFile (codes "20150715_R_V1_A0000116N.DE_1.XML"), Refused 64 0 0)
    ∷ (NameFile (codes "20150715_R_V1_A0000116N.DE_1.xml2"), Refused 64 0 0)
    ∷ (NameFile (codes "20150715_R_V1_A0000116N.DE_1xml"), Refused 64 0 0)
    ∷ (NameFile (codes "20150715_R_V1_A0000116N.DE.xml"), Refused 64 0 0)
    ∷ (NameFile (codes "20150715_R_V1_A0000116N.DE_1_1.xml"), Refused 64 0 0)
    ∷ (NameFile (codes "20150715_abcdefghijklmnopqrstuvwxyz1234567_V1_A0000116N.DE_1.xml"), Refused 64 0 0)
    ∷ (NameFile (codes "20150715_r_V0_A0000116N.DE_1.xml"), Accepted)
    ∷ (NameFile (codes "00000000_abcdefghijklmnopqrstuvwxyz123456_V9_A0000116N.DE_123456789.xml"), Accepted)
    ∷ [])
    ∷ []

-- limits of the lists, from books that have come close to them, and of the lengths of ids and names
abbrev pub of_limits : List Case
of_limits =
    -- the 32nd entity and the 33rd
    from_book (near (replicate 31 (codes "A0000116N.DE")) [])
    ((AddEntity (codes "A0000116N.DF"), Accepted)
    ∷ (AddEntity (codes "A0000116N.DG"), Refused 63 0 0)
    ∷ (AddEntity (codes "A0000116N.DF"), Refused 62 0 0)
    ∷ [])
    -- the 63rd contract and the 64th
    ∷ from_book (near [] (replicate 62 (listed_as "X;FW;;")))
    ((AddContract (codes "Y;FW;;"), Accepted)
    ∷ (AddContract (codes "Z;FW;;"), Refused 55 0 0)
    ∷ (AddContract (codes "Y;FW;;"), Refused 52 1 0)
    ∷ (Judge 0 (codes "TRD;T;Y;XEER;C0643778W.EU;S;N;9;1;1;"), Accepted)
    ∷ [])
    -- the 255th name and the 256th
    ∷ from_book (near [] (replicate 31 (listed_as "X;FW;;a,b,c,d,e,f,g,h")))
    ((AddContract (codes "Y;FW;;a,b,c,d,e,f,g,h"), Refused 55 0 0)
    ∷ (AddContract (codes "Y;FW;;a,b,c,d,e,f,g"), Accepted)
    ∷ (AddContract (codes "Z;FW;;a"), Refused 55 0 0)
    ∷ (AddContract (codes "Z;FW;;"), Accepted)
    ∷ [])
    -- 52 bytes of id, and 53
    ∷ edge
    ((Judge 0 (codes "TRD;" ++ (long_id 53 ++ codes ";;XBIL;C0643778W.EU;S;N;9;1;1;")), Refused 12 2 4)
    ∷ (Judge 0 (codes "TRD;" ++ (long_id 52 ++ codes ";;XBIL;C0643778W.EU;S;N;9;1;1;")), Accepted)
    ∷ [])
    -- 32 bytes of contract, and 33
    ∷ edge
    ((Judge 0 (codes "TRD;a;" ++ (long_id 33 ++ codes ";XBIL;C0643778W.EU;S;N;9;1;1;")), Refused 13 3 6)
    ∷ (Judge 0 (codes "TRD;a;" ++ (long_id 32 ++ codes ";XBIL;C0643778W.EU;S;N;9;1;1;")), Accepted)
    ∷ [])
    -- 32 bytes of index name, and 33
    ∷ edge
    ((Judge 0 (codes "TRD;b;;XBIL;C0643778W.EU;S;N;9;1;1;" ++ long_id 33), Refused 21 11 35)
    ∷ (Judge 0 (codes "TRD;b;;XBIL;C0643778W.EU;S;N;9;1;1;" ++ long_id 32), Accepted)
    ∷ [])
    -- 32 bytes of a contract's id, and 33
    ∷ edge
    ((AddContract (long_id 33 ++ codes ";FW;;"), Refused 51 1 0)
    ∷ (AddContract (long_id 32 ++ codes ";FW;;"), Accepted)
    ∷ [])
    ∷ []

abbrev pub edges : List Case
edges = of_forms ++ (of_lists ++ (of_lives ++ (of_files ++ of_limits)))

abbrev pub EdgesStand : Type 0
EdgesStand = AllByRecursion Stands edges

-- ---- What is held afterwards

-- a book, calls, and the lives and files that they end in
pub record Ending : Type 0 where
  pub from : Book
  pub asked_for : List Call
  pub lives_after : Lives
  pub files_after : List File

abbrev pub Ends : Ending → Type 0
Ends x = ((end x.from x.asked_for).lives ≡ x.lives_after) × ((end x.from x.asked_for).files ≡ x.files_after)

-- the key of the trade T below, under contract number n at a venue
abbrev pub key : ℕ → Bytes → KeyParts
key n v = record { of_kind = Trade; of_id = codes "T"; of_contract = n; of_venue = v; of_participant = codes "C0643778W.EU"; of_side = Sell }

-- an identified file with n lines judged, a accepted and r refused
abbrev pub counted : ℕ → ℕ → ℕ → File
counted n a r = record { stage = Identified; entity = codes "A0000116N.DE"; judged = n; accepted = a; refused = r }

-- a line judged in the first file
abbrev pub line : String → Call
line l = Judge 0 (codes l)

abbrev pub endings : List Ending
endings =
    -- a New enters an open life, under the number of its contract and under 0 at XBIL; the last to enter stands first
    record {
      from = near [] (replicate 62 (listed_as "X;FW;;") ++ listed_as "Y;FW;;" ∷ []);
      asked_for = line "TRD;T;Y;XEER;C0643778W.EU;S;N;9;1;-2.5;" ∷ line "TRD;T;Y;XBIL;C0643778W.EU;S;N;9;1;;" ∷ [];
      lives_after = (key 0 (codes "XBIL"), life Open 9 100_000 None) ∷ (key 63 (codes "XEER"), life Open 9 100_000 (Some (negsuc 249_999))) ∷ [];
      files_after = counted 2 2 0 ∷ [];
    }
    -- a Modify and a Cancel change the life where it stands; a refused line counts in its file, and changes nothing else
    ∷ record {
      from = near [] (listed_as "Y;FW;;" ∷ []);
      asked_for =
          line "TRD;T;Y;XEER;C0643778W.EU;S;N;9;1;1;" ∷ line "TRD;T;Y;XBIL;C0643778W.EU;S;N;9;1;1;"
          ∷ line "TRD;T;Y;XEER;C0643778W.EU;S;M;10;2;3;" ∷ line "TRD;T;Y;XEER;C0643778W.EU;S;C;11;4;5;" ∷ line "TRD;T;Y;XEER;C0643778W.EU;S;M;12;6;7;" ∷ line "x" ∷ [];
      lives_after = (key 0 (codes "XBIL"), life Open 9 100_000 (Some (pos 100_000))) ∷ (key 1 (codes "XEER"), life Cancelled 11 200_000 (Some (pos 300_000))) ∷ [];
      files_after = counted 6 4 2 ∷ [];
    }
    -- an Error takes it out
    ∷ record {
      from = near [] (listed_as "Y;FW;;" ∷ []);
      asked_for = line "TRD;T;Y;XEER;C0643778W.EU;S;N;9;1;1;" ∷ line "TRD;T;Y;XBIL;C0643778W.EU;S;N;9;1;1;" ∷ line "TRD;T;Y;XEER;C0643778W.EU;S;E;9;1;1;" ∷ [];
      lives_after = (key 0 (codes "XBIL"), life Open 9 100_000 (Some (pos 100_000))) ∷ [];
      files_after = counted 3 3 0 ∷ [];
    }
    ∷ []

-- the lines of a struck life are left out, and those of the life that its key has afterwards stay; so do the other calls, refused ones too
abbrev pub SurvivorsExample : Type 0
SurvivorsExample =
    survivors (log (near [] []) (
    line "TRD;T;;XBIL;C0643778W.EU;S;N;9;1;1;" ∷ line "TRD;U;;XBIL;C0643778W.EU;S;N;9;1;1;" ∷ line "TRD;T;;XBIL;C0643778W.EU;S;M;10;1;1;"
    ∷ line "TRD;T;;XBIL;C0643778W.EU;S;E;9;1;1;" ∷ line "TRD;T;;XBIL;C0643778W.EU;S;E;10;1;1;" ∷ line "TRD;T;;XBIL;C0643778W.EU;S;N;8;1;1;"
    ∷ line "TRD;U;;XBIL;C0643778W.EU;S;C;9;1;1;" ∷ line "x" ∷ LookUp [] ∷ Close 1 ∷ Total ∷ Close 0 ∷ []))
    ≡ line "TRD;U;;XBIL;C0643778W.EU;S;N;9;1;1;" ∷ line "TRD;T;;XBIL;C0643778W.EU;S;N;8;1;1;" ∷ line "TRD;U;;XBIL;C0643778W.EU;S;C;9;1;1;"
    ∷ LookUp [] ∷ Close 1 ∷ Total ∷ Close 0 ∷ []

-- the quantities of the open lives together, at each call for the total and at no other
abbrev pub TotalsExample : Type 0
TotalsExample =
    totals 0 (λ m n. m + n) (λ k l. l.with_quantity) (near (codes "A0000116N.DE" ∷ []) []) (
    Total ∷ line "TRD;T;;XBIL;C0643778W.EU;S;N;9;1;1;" ∷ Total ∷ line "TRD;U;;XBIL;C0643778W.EU;B;N;9;2;1;" ∷ LookUp (codes "TRD;U;;XBIL;C0643778W.EU;B;N;9;2;1;")
    ∷ Total ∷ line "TRD;T;;XBIL;C0643778W.EU;S;C;9;1;1;" ∷ line "x" ∷ Total
    ∷ AddEntity (codes "C0643778W.EU") ∷ AddContract (codes "Y;FW;;") ∷ NameFile [] ∷ Identify 0 [] ∷ Withdraw 0 ∷ Close 0 ∷ Total ∷ [])
    ≡ 0 ∷ 100_000 ∷ 300_000 ∷ 200_000 ∷ 200_000 ∷ []

abbrev pub EndingsStand : Type 0
EndingsStand = AllByRecursion Ends endings × SurvivorsExample × TotalsExample
