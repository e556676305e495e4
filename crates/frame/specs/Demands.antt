-- What the theorem on fields that are written and read asks of them.
use Rattle.std.specs.Prelude.{◌^◌, ◌<◌}
use Rattle.frame.specs.declared.Fields.{Fields}

-- what the types of the fields say
pub record Typed (f : Fields) : Type 0 where
  pub sa0 : f.sa.0 < 256
  pub sa1 : f.sa.1 < 256
  pub sa2 : f.sa.2 < 256
  pub sa3 : f.sa.3 < 256
  pub sa4 : f.sa.4 < 256
  pub sa5 : f.sa.5 < 256
  pub priority1 : f.precedence.priority1 < 256
  pub source : f.precedence.source < 256
  pub variance : f.precedence.variance < 2 ^ 16
  pub priority2 : f.precedence.priority2 < 256
  pub clock : f.precedence.clock < 2 ^ 64
  pub hop : f.hop < 256
  pub count : f.count < 256
  pub error : f.error.0 < 2 ^ 32
  pub version : f.version < 256
