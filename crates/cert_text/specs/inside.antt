pub mod NodeReading
pub mod StepReading
pub mod CertReading
pub mod WholeReading
