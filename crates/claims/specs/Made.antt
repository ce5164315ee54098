-- A claim that was made, as plain data.
use Rattle.std.specs.Prelude.{Ok, Err, Result}
use Rattle.text.specs.Rows.{Refusal}
use Rattle.life.specs.Parts.{key_parts, life_parts}
use Rattle.claims.specs.declared.claimed.Claim.{Claim}
use Rattle.claims.specs.declared.faults.LineFault.{LineFault}
use Rattle.claims.specs.Claims.{Claimed}
use Rattle.claims.specs.Faults.{line_refusal}

abbrev pub claim_of : Claim → Claimed
claim_of c = record { of_key = key_parts c.key; acts = c.action; tells = life_parts c.told }

abbrev pub claim_in : Result Claim LineFault → Result Claimed Refusal
claim_in (Ok c) = Ok (claim_of c)
claim_in (Err e) = Err (line_refusal e)
