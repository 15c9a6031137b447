pub mod CertReport
pub mod inside
