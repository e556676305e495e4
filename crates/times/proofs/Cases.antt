-- errorTime as a signed number, at its edges: cases by computation.
use Rattle.std.proofs.Common.{◌≡◌, pos, negsuc, refl}
use Rattle.times.specs.Times.{error_of}

pub error_zero : error_of (record { 0 = 0 }) ≡ pos 0
error_zero = refl

pub error_greatest : error_of (record { 0 = 0x7FFFFFFF }) ≡ pos 2147483647
error_greatest = refl

pub error_least : error_of (record { 0 = 0x80000000 }) ≡ negsuc 2147483647
error_least = refl

pub error_one_less : error_of (record { 0 = 0xFFFFFFFF }) ≡ negsuc 0
error_one_less = refl
