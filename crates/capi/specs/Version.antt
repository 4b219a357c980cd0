-- The library's version, as a caller in C asks for it, and what the contract promises.
use Rattle.std.specs.Prelude.{◌≡◌, ℕ}
use Rattle.capi.specs.declared.LibraryVersion.{LibraryVersion}

-- the major version is raised where a caller must compile anew, the minor one where something is added, the patch otherwise
unfoldable pub major_version : ℕ
major_version = 1

unfoldable pub minor_version : ℕ
minor_version = 0

unfoldable pub patch_version : ℕ
patch_version = 0

-- asking for the version returned r
pub record VersionReturns (r : LibraryVersion) : Type 0 where
  pub major : r.major ≡ major_version
  pub minor : r.minor ≡ minor_version
  pub patch : r.patch ≡ patch_version
  -- 1.0.0
  pub numbers : r ≡ record { major = 1; minor = 0; patch = 0 }
